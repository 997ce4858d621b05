-- Since and count, one place further back. Assumes nothing.
use Rattle.std.proofs.Common.{◌≡◌, ℕ, zero, suc, ◌+◌, ◌-◌, ◌<◌, ◌≤◌, Bool, true, false, cond, not, ◌&&◌, ◌||◌, ltb, refl, ap, ◌∙◌, arith}
use Rattle.std.proofs.lemmas.Bool.{and_right, cond_both, le-ltb, lt-ltb, or_right}
use Rattle.truth.specs.Places.{count, every, last, some}
use Rattle.truth.proofs.Shift.{count_none, every_vacuous, some_agree, some_none}
use Rattle.judge.specs.declared.counting.Asked.{Asked}
use Rattle.judge.specs.declared.held.Held.{Held}
use Rattle.judge.specs.Counting.{count_up_to, near, since_up_to, truth}

module _ (w a b : ℕ → Bool) (h : ℕ) where
  -- places that are near and have b, since which a holds

  -- a place before has a after it up to suc h if it has so up to h, and suc h has it
  earlier : (t : Bool) → some h (λ i. w i && (b i && ((not (ltb i (suc h)) || t) && every i h a))) ≡ (t && some h (λ i. w i && (b i && every i h a)))
  earlier true = some_agree h _ _ (λ i lo hi. λ k. w i && (b i && (or_right (not (ltb i (suc h))) true refl k && every i h a)))
  earlier false = some_none h _ (λ i lo hi. and_right (w i) _ (and_right (b i) _ (λ k. (not (lt-ltb i (suc h) (omega arith) k) || false) && every i h a)))

  here : (t : Bool) → (t && every (suc h) (suc h) a) ≡ t
  here true = every_vacuous (suc h) (suc h) a (omega arith)
  here false = refl

  pub since_more : some (suc h) (λ i. w i && (b i && every i (suc h) a)) ≡ ((w (suc h) && b (suc h)) || (a (suc h) && some h (λ i. w i && (b i && every i h a))))
  since_more = λ k. (w (suc h) && here (b (suc h)) k) || earlier (a (suc h)) k

  -- places that are near and have b, after the last that is near and has a

  last_le : (j : ℕ) (p : ℕ → Bool) → last j p ≤ j
  last_le zero p = omega arith
  last_le (suc j) p = cond_both (p (suc j)) (suc j) (last j p) (λ (m : ℕ). m ≤ suc j) (λ _. omega arith) (λ _. omega (arith, last_le j p))

  abbrev after : ℕ → ℕ → Bool
  after m i = w i && (ltb m i && b i)

  abbrev turn : ℕ
  turn = last h (λ i. w i && a i)

  by : (x y : Bool) → cond (x && (ltb (cond (x && y) (suc h) turn) (suc h) && b (suc h))) 1 0 + count h (after (cond (x && y) (suc h) turn)) ≡ cond x (cond y 0 (count h (after turn) + cond (b (suc h)) 1 0)) (count h (after turn))
  by false y = omega arith
  by true true =
      let none = count_none h (after (suc h)) (λ i lo hi. and_right (w i) _ (λ k. le-ltb (suc h) i (omega arith) k && b i)) in
      λ k. cond (le-ltb (suc h) (suc h) (omega arith) k && b (suc h)) 1 0 + none k
  by true false =
      let below : turn < suc h = omega (arith, last_le h (λ i. w i && a i)) in
      (λ k. cond (lt-ltb turn (suc h) below k && b (suc h)) 1 0 + count h (after turn)) ∙ omega arith

  pub count_more : count (suc h) (after (last (suc h) (λ i. w i && a i))) ≡ cond (w (suc h)) (cond (a (suc h)) 0 (count h (after turn) + cond (b (suc h)) 1 0)) (count h (after turn))
  count_more = by (w (suc h)) (a (suc h))

module _ (held : Held) (asked : Asked) where
  pub since_none : since_up_to held asked 0 ≡ false
  unfolding since_up_to
  since_none = refl

  pub since_step : (h : ℕ) → 0 < h → since_up_to held asked h ≡ ((near held asked h && truth held asked.b h) || (truth held asked.a h && since_up_to held asked (h - 1)))
  unfolding since_up_to
  since_step zero lo = absurd (omega arith)
  since_step (suc h) lo =
      let e : h ≡ suc h - 1 = omega arith in
      since_more (near held asked) (truth held asked.a) (truth held asked.b) h
      ∙ ap (λ (k : ℕ). (near held asked (suc h) && truth held asked.b (suc h)) || (truth held asked.a (suc h) && since_up_to held asked k)) e

  pub count_zero : count_up_to held asked 0 ≡ 0
  unfolding count_up_to
  count_zero = refl

  pub count_step : (h : ℕ) → 0 < h → count_up_to held asked h ≡ cond (near held asked h) (cond (truth held asked.a h) 0 (count_up_to held asked (h - 1) + cond (truth held asked.b h) 1 0)) (count_up_to held asked (h - 1))
  unfolding count_up_to
  count_step zero lo = absurd (omega arith)
  count_step (suc h) lo =
      let e : h ≡ suc h - 1 = omega arith in
      count_more (near held asked) (truth held asked.a) (truth held asked.b) h
      ∙ ap (λ (k : ℕ). cond (near held asked (suc h)) (cond (truth held asked.a (suc h)) 0 (count_up_to held asked k + cond (truth held asked.b (suc h)) 1 0)) (count_up_to held asked k)) e

pub ruleset since_steps = (since_none, since_step)

pub ruleset count_steps = (count_zero, count_step)
