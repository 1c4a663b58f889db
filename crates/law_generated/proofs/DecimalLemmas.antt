-- Decimal digits, read back.
use Rattle.std.proofs.Common.{◌≡◌, ℕ, ◌+◌, ◌-◌, ◌*◌, ◌/◌, ◌%◌, ◌<◌, ◌≤◌, ◌^◌, Bool, true, false, List, [], ◌∷◌, ◌++◌, Option, Some, None, length, refl, ap, ◌∙◌, arith}
use Rattle.std.specs.Prelude.{if◌then◌else◌, nat_le, ◌&&◌}
use Rattle.std.specs.Fmt.{decimal}
use Rattle.std.proofs.lemmas.Bool.Decides.{nat_tests}
use Rattle.std.proofs.lemmas.Fmt.{decimal_by_steps, decimal_nonempty, length-decimal-le}
use Rattle.sf_script_words.specs.Numbers.{decimal_of, digits_after, is_digit}

-- the digit of a number below ten
is_digit_of : (d : ℕ) → d < 10 → is_digit (48 + d) ≡ true
is_digit_of d h = grind (arith, nat_tests)

pub if_is : {X : Type 0} (b : Bool) (x y : X) → b ≡ true → (if b then x else y) ≡ x
if_is true x y e = refl
if_is false x y e = absurd (cc)

pub if_not : {X : Type 0} (b : Bool) (x y : X) → b ≡ false → (if b then x else y) ≡ y
if_not false x y e = refl
if_not true x y e = absurd (cc)

-- what a test lets through is there only where it holds
if_some : {X : Type 0} (b : Bool) (o : Option X) (x : X) → (if b then o else None) ≡ Some x → (b ≡ true) × (o ≡ Some x)
if_some true o x e = (refl, e)
if_some false o x e = absurd (cc)

-- one more digit
digits_after-more : (n : ℕ) (ds : List ℕ) (m d : ℕ) → d < 10 → digits_after n ds ≡ Some m → digits_after n (ds ++ (48 + d) ∷ []) ≡ Some (10 * m + d)
unfolding digits_after
digits_after-more n [] m d h e =
    let same : n ≡ m = cc in
    let value : 10 * n + (48 + d - 48) ≡ 10 * m + d = rw (same) (omega arith) in
    if_is (is_digit (48 + d)) (Some (10 * n + (48 + d - 48))) None (is_digit_of d h) ∙ ap Some value
digits_after-more n (b ∷ bs) m d h e =
    let told = if_some (is_digit b) (digits_after (10 * n + (b - 48)) bs) m e in
    if_is (is_digit b) (digits_after (10 * n + (b - 48)) (bs ++ (48 + d) ∷ [])) None told.0 ∙ digits_after-more (10 * n + (b - 48)) bs m d h told.1

reads_one : (n : ℕ) → n < 10 → digits_after 0 ((48 + n) ∷ []) ≡ Some n
unfolding digits_after
reads_one n h =
    let value : 10 * 0 + (48 + n - 48) ≡ n = omega arith in
    if_is (is_digit (48 + n)) (Some (10 * 0 + (48 + n - 48))) None (is_digit_of n h) ∙ ap Some value

reads_more : (n : ℕ) (ds : List ℕ) → 10 ≤ n → digits_after 0 ds ≡ Some (n / 10) → digits_after 0 (ds ++ (48 + n % 10) ∷ []) ≡ Some n
reads_more n ds h e =
    let low : n % 10 < 10 = omega arith in
    let value : 10 * (n / 10) + n % 10 ≡ n = omega arith in
    digits_after-more 0 ds (n / 10) (n % 10) low e ∙ ap Some value

digits_read : (n : ℕ) → n < 2 ^ 64 → digits_after 0 (decimal n) ≡ Some n
digits_read n h = decimal_by_steps (λ n ds. digits_after 0 ds ≡ Some n) reads_one reads_more n h

pub decimal_read : (n : ℕ) → n < 2 ^ 64 → decimal_of (decimal n) ≡ Some n
unfolding decimal_of
decimal_read n h =
    let some : 0 < length (decimal n) = decimal_nonempty n h in
    let few : length (decimal n) ≤ 20 = length-decimal-le 20 n (omega arith) (omega arith) h in
    let right : (nat_le 1 (length (decimal n)) && nat_le (length (decimal n)) 20) ≡ true = grind (arith, nat_tests) in
    if_is (nat_le 1 (length (decimal n)) && nat_le (length (decimal n)) 20) (digits_after 0 (decimal n)) None right ∙ digits_read n h
