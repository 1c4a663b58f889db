-- What is declared, by rising number, one number more at a time.
use Rattle.std.proofs.Common.{◌≡◌, ℕ, ◌+◌, ◌-◌, ◌≤◌, ◌==◌, List, [], ◌∷◌, ◌++◌, filter, ap, sym, ◌∙◌, arith}
use Rattle.std.specs.List.{flat_map, range_with_len}
use Rattle.std.proofs.lemmas.List.{append-nil, map-id}
use Rattle.std.proofs.lemmas.List.Concat.{flat_map-append}
use Rattle.std.proofs.lemmas.List.FromFn.{map-range_with_len_more}
use Rattle.law_played.specs.Runs.{rising}
use Rattle.sf_play_report.specs.inner.Plans.{is_numbered}

range_next : (n : ℕ) → 1 ≤ n → range_with_len 1 (n + 1 - 1) ≡ range_with_len 1 (n - 1) ++ n ∷ []
range_next n some =
    let less : n + 1 - 1 ≡ (n - 1) + 1 = omega arith in
    ap (range_with_len 1) less
    ∙ (sym (map-id (range_with_len 1 ((n - 1) + 1)))
    ∙ (map-range_with_len_more (λ (x : ℕ). x) 1 (n - 1) n (omega arith) ∙ ap (λ (l : List ℕ). l ++ n ∷ []) (map-id (range_with_len 1 (n - 1)))))

pub rising_more : {X : Type 0} (number_of : X → ℕ) (items : List X) (n : ℕ) → 1 ≤ n → rising number_of (n + 1 - 1) items ≡ rising number_of (n - 1) items ++ filter (is_numbered number_of n) items
rising_more {X} number_of items n some =
    let found : ℕ → List X = λ (k : ℕ). filter (λ (item : X). number_of item == k) items in
    ap (flat_map found) (range_next n some)
    ∙ (flat_map-append found (range_with_len 1 (n - 1)) (n ∷ []) ∙ ap (λ (l : List X). flat_map found (range_with_len 1 (n - 1)) ++ l) (append-nil (found n)))
