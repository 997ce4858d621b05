-- What holds at each place of a list goes on to hold when an item is pushed. Assumes nothing.
use Rattle.std.proofs.Common.{◌≡◌, ℕ, ◌<◌, List, [], ◌∷◌, ◌++◌, length, get_or, sym, subst, ⊎_elim, arith}
use Rattle.std.proofs.lemmas.List.{get_or_append_left, get_or_push, length_push}
use Rattle.std.proofs.lemmas.Bool.{cases_lt}

pub each_pushed : {X : Type 0} (P : ℕ → X → Type 0) (xs : List X) (x d : X) → ((i : ℕ) → i < length xs → P i (get_or xs i d)) → P (length xs) x → (i : ℕ) → i < length (xs ++ x ∷ []) → P i (get_or (xs ++ x ∷ []) i d)
each_pushed P xs x d each here i h =
    ⊎_elim
    (λ lt. subst (P i) (sym (get_or_append_left xs (x ∷ []) d i lt)) (each i lt))
    (λ ge.
    let at : length xs ≡ i = omega (arith, length_push xs x) in
    subst (P i) (sym (get_or_push xs x d i at)) (subst (λ (n : ℕ). P n x) at here))
    (cases_lt i (length xs))
