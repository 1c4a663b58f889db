-- What one call more adds to the arrivals.
use Rattle.std.proofs.Common.{◌≡◌, ◌∙◌, sym, ap, ℕ, ◌+◌, ◌<◌, List, [], ◌∷◌, ◌++◌, length, map, reverse, refl, arith, length-append}
use Rattle.std.proofs.lemmas.List.{append-nil, length-map, map-append, reverse-append}
use Rattle.std.proofs.lemmas.List.Elements.{All-nil, All-push}
use Rattle.sf_calls.specs.Histories.{entry}
use Rattle.sf_txn.specs.Transactions.{Contents}
use Rattle.sf_token.specs.declared.arrivals.ArriveCall.TheVariants as call
use Rattle.sf_token.specs.declared.arrivals.ArriveReply.TheVariants as reply
use Rattle.sf_token.specs.declared.arrivals.ArrvEntry.{ArrvEntry}
use Rattle.sf_token.specs.Pending.{Arrival}
use Rattle.sf_token.specs.Arrivals.{Calls, HoldsAll, IsArrivals, entry_of, sent, waiting}

-- a list with one item more, from its end
pub reverse-push : {A B : Type 0} (f : A → B) (xs : List A) (x : A) → reverse (map f (xs ++ x ∷ [])) ≡ f x ∷ reverse (map f xs)
reverse-push f xs x = ap (λ ys. reverse ys) (map-append f xs (x ∷ [])) ∙ reverse-append (map f xs) (f x ∷ [])

module _ {L E R C : Type 0} where
  -- a transaction is sent
  pub IsArrivals-send : (holds : L → Type 0) (calls : Calls L E R C) (list : List (Arrival L)) (entries : List ArrvEntry) (by step number : ℕ) (txn : Contents L)
      → IsArrivals {E = E} {R = R} {C = C} holds calls list entries → HoldsAll holds txn.buffers → length entries < 4294967295 → number ≡ length entries + 1
      → IsArrivals {E = E} {R = R} {C = C} holds (entry by (call.Send step txn) (reply.Number number) ∷ calls) (list ++ record { number = number; actor = record { 0 = by }; step = step; txn = txn } ∷ []) (entries ++ record { actor = record { 0 = by }; step = step; token = txn.token } ∷ [])
  IsArrivals-send holds calls list entries by step number txn h fits few is =
      let arrived = λ (n : ℕ). record { number = n; actor = record { 0 = by }; step = step; txn = txn } ∷ [] in
      let count : number ≡ length (sent calls) + 1 = omega (arith, ap length h.told, length-map (sent calls) entry_of) in
      record {
        legal = (count, h.legal);
        waits = ap (λ xs. xs ++ arrived number) h.waits ∙ ap (λ n. waiting calls ++ arrived n) count;
        told = ap (λ xs. xs ++ record { actor = record { 0 = by }; step = step; token = txn.token } ∷ []) h.told ∙ sym (map-append entry_of (sent calls) (arrived (length (sent calls) + 1)));
        held = All-push (λ (a : Arrival L). HoldsAll holds a.txn.buffers) list _ h.held fits;
        few = omega (arith, few, length-append {A = ArrvEntry});
      }
