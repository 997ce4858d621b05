-- Reading, item by item. Assumes nothing.
use Rattle.std.proofs.Common.{◌≡◌, ℕ, suc, ◌+◌, ◌*◌, ◌<◌, ◌≤◌, List, ◌∷◌, length, get_or, take, drop, Some, None, Ok, Err, Option, Result, sym, refl, ap, ◌∙◌, subst, arith}
use Rattle.std.specs.Result.{MatchResult}
use Rattle.std.proofs.lemmas.List.{drop_all, drop_more}
use Rattle.sheet.specs.declared.answers.ReadRefusal.{ReadRefusal}
use Rattle.sheet.specs.declared.answers.ReadRefusal.TheVariants.{Item}
use Rattle.sheet.specs.declared.answers.Refusal.{Refusal}
use Rattle.sheet.specs.declared.limits.Limits.{Limits}
use Rattle.sheet.specs.Bytes.{add_each, add_formulas, add_rules, Brought, counts, fields_from, reading, then_read}
use Rattle.sheet.specs.Contents.{Added, Contents, empty}

-- what an addition that succeeded, or was refused, tells

pub added_ok : (o : Option Refusal) (before with after : Contents) → Added o (Ok tt) before with after → (o ≡ None) × (after ≡ with)
added_ok None before with after h = (refl, h.1)
added_ok (Some e) before with after h = absurd (cc h.0)

pub added_err : (o : Option Refusal) (e : Refusal) (before with after : Contents) → Added o (Err e) before with after → o ≡ Some e
added_err None e before with after h = absurd (cc h.0)
added_err (Some d) e before with after h = let same : d ≡ e = cc h.0 in ap Some same

-- one item, and a turn of a loop over items

module _ {X : Type 0} (refuses : Contents → X → Option Refusal) (with : Contents → X → Contents) where
  pub each_on : (p : ℕ) (c : Contents) (x : X) (xs : List X) → refuses c x ≡ None → add_each refuses with p c (x ∷ xs) ≡ add_each refuses with (suc p) (with c x) xs
  each_on p c x xs e = ap (λ (o : Option Refusal). elim o as (λ _. Result Contents ReadRefusal) [ None ↦ add_each refuses with (suc p) (with c x) xs | Some r ↦ Err (Item p r) ]) e

  pub each_stops : (p : ℕ) (c : Contents) (x : X) (xs : List X) (r : Refusal) → refuses c x ≡ Some r → add_each refuses with p c (x ∷ xs) ≡ Err (Item p r)
  each_stops p c x xs r e = ap (λ (o : Option Refusal). elim o as (λ _. Result Contents ReadRefusal) [ None ↦ add_each refuses with (suc p) (with c x) xs | Some r ↦ Err (Item p r) ]) e

  -- before the item i, which is the one at the place p
  module _ (p : ℕ) (xs : List X) (i : ℕ) (c : Contents) (all : Result Contents ReadRefusal) (inv : add_each refuses with p c (drop i xs) ≡ all) where
    module _ (lt : i < length xs) (x y : X) (is : x ≡ get_or xs i y) (d : Contents) (r : Result (Unit {0}) Refusal) (h : Added (refuses c x) r c (with c x) d) where
      next_item : drop i xs ≡ x ∷ drop (i + 1) xs
      next_item = drop_more xs i y lt ∙ ap (λ (z : X). z ∷ drop (i + 1) xs) (sym is)

      pub each_more : r ≡ Ok tt → (q : ℕ) → q ≡ p + 1 → add_each refuses with q d (drop (i + 1) xs) ≡ all
      each_more ok q e =
          let told = added_ok (refuses c x) c (with c x) d (subst (λ (o : Result (Unit {0}) Refusal). Added (refuses c x) o c (with c x) d) ok h) in
          let next : q ≡ suc p = omega arith in
          (λ j. add_each refuses with (next j) (told.1 j) (drop (i + 1) xs))
          ∙ sym (each_on p c x (drop (i + 1) xs) told.0)
          ∙ ap (add_each refuses with p c) (sym next_item) ∙ inv

      refused_so : (o : Result (Unit {0}) Refusal) (q : Result (Unit {0}) ReadRefusal) → Added (refuses c x) o c (with c x) d → MatchResult o (λ _. ⊥) (λ e. q ≡ Err (Item p e)) → Brought all q d
      refused_so (Ok u) q g told = absurd told
      refused_so (Err e) q g told =
          let all_is : all ≡ Err (Item p e) =
          sym inv ∙ ap (add_each refuses with p c) next_item
          ∙ each_stops p c x _ e (added_err (refuses c x) e c (with c x) d g)
          in
          subst (λ (o : Result Contents ReadRefusal). Brought o q d) (sym all_is) told

      pub each_refused : (q : Result (Unit {0}) ReadRefusal) → MatchResult r (λ _. ⊥) (λ e. q ≡ Err (Item p e)) → Brought all q d
      each_refused q = refused_so r q h

    pub each_all : length xs ≤ i → Brought all (Ok tt) c
    each_all le =
        let all_is : all ≡ Ok c = sym inv ∙ ap (add_each refuses with p c) (drop_all i xs le) in
        subst (λ (o : Result Contents ReadRefusal). Brought o (Ok tt) c) (sym all_is) (refl, refl)

-- reading in its three parts

module _ (limits : Limits) (bs : List ℕ) where
  pub reading_counted : (n m : ℕ) → Ok (n, m) ≡ counts bs → reading limits bs ≡ then_read (add_formulas limits 0 empty (fields_from n bs 0)) (λ d. add_rules limits n d (take m (drop (8 * n) bs)))
  reading_counted n m e = ap (λ (k : Result (ℕ × ℕ) ReadRefusal). then_read k (λ nm. then_read (add_formulas limits 0 empty (fields_from nm.0 bs 0)) (λ d. add_rules limits nm.0 d (take nm.1 (drop (8 * nm.0) bs))))) (sym e)

-- what was brought, and what that leaves on the sheet

pub brought_is : (all : Result Contents ReadRefusal) (c : Contents) → Brought all (Ok tt) c → all ≡ Ok c
brought_is (Ok d) c h = ap Ok (sym h.1)
brought_is (Err e) c h = absurd (cc h)

pub refused_is : (all : Result Contents ReadRefusal) (e : ReadRefusal) (c : Contents) → Brought all (Err e) c → all ≡ Err e
refused_is (Ok d) e c h = absurd (cc h.0)
refused_is (Err d) e c h = sym (let same : e ≡ d = cc h in ap Err same)
