-- What a reader returned that may run out of memory.
use Rattle.std.specs.Prelude.{◌≡◌, Result, Ok, Err}
use Rattle.sf_script_words.specs.declared.fault.WordFault.{WordFault}
use Rattle.sf_script.specs.declared.fault.LineFault.{LineFault}
use Rattle.sf_script.specs.declared.fault.LineFault.TheVariants.{NoMemory, Word}

-- what a function returned, seen by view, is what reading gives, unless memory ran out
abbrev pub GivesUnless : {X Y : Type 0} → (X → Y) → Result X LineFault → Result Y WordFault → Type 0
GivesUnless view (Ok x) read = read ≡ Ok (view x)
GivesUnless view (Err NoMemory) read = Unit {0}
GivesUnless view (Err (Word e)) read = read ≡ Err e
