-- The letters of a set of marks: what one more mark, above those that are there, adds to them. Assumes nothing.
use Rattle.std.proofs.Common.{◌≡◌, ℕ, zero, suc, ◌+◌, ◌-◌, ◌*◌, ◌/◌, ◌%◌, ◌^◌, ◌<◌, ◌≤◌, Bool, true, false, cond, eqb, List, [], ◌∷◌, ◌++◌, sym, refl, ap, ◌∙◌, subst, ⊎_elim, append-nil, add-one, arith, pow_pos, pow_mono, pow-add}
use native.Mathlib.Nat.{add-mul-div_right, add-mul-mod_self_right, div-eq_of_lt, mod-one, two-pow-succ}
use lib.Pow.{mod-pow-add}
use Rattle.std.proofs.lemmas.Bool.{cases_eq, cases_lt, eq-eqb, ne_eqb}
use Rattle.line.specs.Marks.{has}
use Rattle.line.specs.Spelling.{letters_below, or_hyphen}

-- a mark above all of them is not set
pub has_above : (m n : ℕ) → m < 2 ^ n → has m n ≡ false
has_above m n h = ap (λ q. eqb (q % 2) 1) (div-eq_of_lt h)

-- one mark more, above them, is set, and changes none below it
pub has_new : (m j : ℕ) → m < 2 ^ j → has (m + 2 ^ j) j ≡ true
has_new m j h =
    let one : 1 * 2 ^ j ≡ 2 ^ j = omega arith in
    let q : (m + 2 ^ j) / 2 ^ j ≡ 1 = ap (λ x. (m + x) / 2 ^ j) (sym one) ∙ add-mul-div_right m 1 (pow_pos j) ∙ ap (λ x. x + 1) (div-eq_of_lt h) in
    ap (λ x. eqb (x % 2) 1) q

pub has_below : (m i j : ℕ) → i < j → has (m + 2 ^ j) i ≡ has m i
has_below m i j h =
    let d : ℕ = j - suc i in
    let e : 2 ^ j ≡ (2 ^ d + 2 ^ d) * 2 ^ i = ap (λ k. 2 ^ k) (omega arith) ∙ pow-add 2 (suc d) i ∙ ap (λ x. x * 2 ^ i) (two-pow-succ d) in
    let q : (m + 2 ^ j) / 2 ^ i ≡ m / 2 ^ i + 2 ^ d * 2 = ap (λ x. (m + x) / 2 ^ i) e ∙ add-mul-div_right m (2 ^ d + 2 ^ d) (pow_pos i) ∙ omega arith in
    ap (λ x. eqb (x % 2) 1) q ∙ ap (λ x. eqb x 1) (add-mul-mod_self_right (m / 2 ^ i) (2 ^ d) 2)

-- a mark that is set is a letter more, and one that is not is none

with_letter : (m n : ℕ) → has m n ≡ true → letters_below (suc n) m ≡ letters_below n m ++ (97 + n) ∷ []
unfolding letters_below
with_letter m n e = ap (λ (b : Bool). letters_below n m ++ cond b ((97 + n) ∷ []) []) e

without : (m n : ℕ) → has m n ≡ false → letters_below (suc n) m ≡ letters_below n m
unfolding letters_below
without m n e = ap (λ (b : Bool). letters_below n m ++ cond b ((97 + n) ∷ []) []) e ∙ append-nil _

pub letters_set : (m i : ℕ) → m / 2 ^ i % 2 ≡ 1 → letters_below (i + 1) m ≡ letters_below i m ++ (97 + i) ∷ []
letters_set m i h = rw add-one (with_letter m i (eq-eqb _ 1 h))

pub letters_unset : (m i : ℕ) → (m / 2 ^ i % 2 ≡ 1 → ⊥) → letters_below (i + 1) m ≡ letters_below i m
letters_unset m i h = rw add-one (without m i (ne_eqb _ 1 h))

-- above the marks there is no letter
pub letters_above : (k m : ℕ) → m < 2 ^ k → (n : ℕ) → k ≤ n → letters_below n m ≡ letters_below k m
letters_above k m h zero le = let e : zero ≡ k = omega arith in ap (λ x. letters_below x m) e
letters_above k m h (suc n) le =
    ⊎_elim
    (λ lt. without m n (has_above m n (omega (arith, pow_mono {i = k} {j = n} (omega arith)))) ∙ letters_above k m h n (omega arith))
    (λ ge. let e : suc n ≡ k = omega arith in ap (λ x. letters_below x m) e)
    (cases_lt k (suc n))

letters_same : (k m j : ℕ) → k ≤ j → letters_below k (m + 2 ^ j) ≡ letters_below k m
unfolding letters_below
letters_same zero m j h = refl
letters_same (suc k) m j h =
    λ i. letters_same k m j (omega arith) i ++ cond (has_below m k j h i) ((97 + k) ∷ []) []

-- one mark more, above those that are there, is one letter more at the end
pub letters_push : (m j : ℕ) → m < 2 ^ j → j < 26 → letters_below 26 (m + 2 ^ j) ≡ letters_below 26 m ++ (97 + j) ∷ []
letters_push m j h lt =
    let small : m + 2 ^ j < 2 ^ suc j = omega (arith, two-pow-succ j) in
    letters_above (suc j) (m + 2 ^ j) small 26 lt
    ∙ with_letter (m + 2 ^ j) j (has_new m j h)
    ∙ ap (λ (l : List ℕ). l ++ (97 + j) ∷ []) (letters_same j m j (omega arith) ∙ sym (letters_above j m h 26 (omega arith)))

-- a set of known marks comes about by adding marks from the lowest up
pub marks_by_steps : (P : ℕ → Type 0) → P 0 → ((m j : ℕ) → m < 2 ^ j → j < 26 → P m → P (m + 2 ^ j)) → (m : ℕ) → m < 2 ^ 26 → P m
marks_by_steps P none more m h = go 26 m h (omega arith)
  where
    go : (n m : ℕ) → m < 2 ^ n → n ≤ 26 → P m
    go zero m h le = let e : 0 ≡ m = omega arith in subst P e none
    go (suc n) m h le =
        ⊎_elim
        (λ low. go n m low (omega arith))
        (λ high.
        let e : m - 2 ^ n + 2 ^ n ≡ m = omega arith in
        let low : m - 2 ^ n < 2 ^ n = omega (arith, two-pow-succ n) in
        subst P e (more (m - 2 ^ n) n low le (go n (m - 2 ^ n) low (omega arith))))
        (cases_lt m (2 ^ n))

pub no_letters : letters_below 26 0 ≡ []
unfolding letters_below
no_letters = refl

pub or_hyphen-push : (xs : List ℕ) (x : ℕ) → or_hyphen (xs ++ x ∷ []) ≡ xs ++ x ∷ []
or_hyphen-push [] x = refl
or_hyphen-push (y ∷ xs) x = refl

-- no letter is left where no mark below n is set, and one is where some mark is

top_set : (m n : ℕ) → m / 2 ^ n % 2 ≡ 1 → m % 2 ^ suc n ≡ 2 ^ n + m % 2 ^ n
top_set m n h = ap (λ k. m % 2 ^ k) (omega arith) ∙ mod-pow-add m 1 n ∙ ap (λ d. d * 2 ^ n + m % 2 ^ n) h ∙ omega arith

top_unset : (m n : ℕ) → (m / 2 ^ n % 2 ≡ 1 → ⊥) → m % 2 ^ suc n ≡ m % 2 ^ n
top_unset m n h =
    let none : m / 2 ^ n % 2 ≡ 0 = omega arith in
    ap (λ k. m % 2 ^ k) (omega arith) ∙ mod-pow-add m 1 n ∙ ap (λ d. d * 2 ^ n + m % 2 ^ n) none ∙ omega arith

letters_none : (n m : ℕ) → m % 2 ^ n ≡ 0 → letters_below n m ≡ []
unfolding letters_below
letters_none zero m h = refl
letters_none (suc n) m h =
    ⊎_elim
    (λ set. absurd (omega (arith, top_set m n set, pow_pos n)))
    (λ unset. without m n (ne_eqb _ 1 unset) ∙ letters_none n m (omega (arith, top_unset m n unset)))
    (cases_eq (m / 2 ^ n % 2) 1)

letters_some : (n m : ℕ) → (m % 2 ^ n ≡ 0 → ⊥) → or_hyphen (letters_below n m) ≡ letters_below n m
letters_some zero m h = absurd (h (mod-one m))
letters_some (suc n) m h =
    ⊎_elim
    (λ set. let e = with_letter m n (eq-eqb _ 1 set) in ap or_hyphen e ∙ or_hyphen-push _ _ ∙ sym e)
    (λ unset. let e = without m n (ne_eqb _ 1 unset) in ap or_hyphen e ∙ letters_some n m (λ z. h (top_unset m n unset ∙ z)) ∙ sym e)
    (cases_eq (m / 2 ^ n % 2) 1)

pub hyphen_alone : (m : ℕ) → m % 2 ^ 26 ≡ 0 → or_hyphen (letters_below 26 m) ≡ 45 ∷ []
hyphen_alone m h = ap or_hyphen (letters_none 26 m h)

pub no_hyphen : (m : ℕ) → (m % 2 ^ 26 ≡ 0 → ⊥) → or_hyphen (letters_below 26 m) ≡ letters_below 26 m
no_hyphen = letters_some 26

pub or_hyphen_some : (m : ℕ) → m < 2 ^ 26 → 0 < m → or_hyphen (letters_below 26 m) ≡ letters_below 26 m
or_hyphen_some m h some = no_hyphen m (λ e. omega arith)
