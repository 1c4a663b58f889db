-- The count of a sink's faults, from vsync to vsync.
use Rattle.std.proofs.Common.{◌≡◌, ℕ, ◌≤◌, Some, Result, Ok, Err, ap, arith}
use Rattle.std.specs.Prelude.{IsErrOf, unwrap_or}
use Rattle.sf_live_threads.specs.sf_io.Causes.{Rose}
use Rattle.sf_play_write.specs.sf_record.declared.encode.RunFault.{RunFault}
use Rattle.sf_play_write.specs.sf_record.declared.encode.RunFault.TheVariants.{NoMemory, WriteFault}

-- a count that rose since then rose since any time before
pub rose_since : (first before now : ℕ) → first ≤ before → Rose before now → Rose first now
rose_since first before now later rose = omega (arith, later, rose)

pub same_fault : (fault : RunFault) → Some fault ≡ Some WriteFault → fault ≡ WriteFault
same_fault fault is = ap (λ o. unwrap_or o NoMemory) is

fault_in : {T : Type 0} → Result T RunFault → RunFault
fault_in (Ok x) = NoMemory
fault_in (Err fault) = fault

-- the same, told as another result
pub err_fault : {T : Type 0} (fault : RunFault) → IsErrOf {T = T} {E = RunFault} (Err fault) WriteFault → fault ≡ WriteFault
unfolding fault_in
err_fault {T} fault is = ap (λ (r : Result T RunFault). fault_in r) is
