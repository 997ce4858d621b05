-- What stands on a sheet. Assumes nothing.
use Rattle.std.specs.Prelude.{◌≡◌, ℕ, cond, List, [], ◌∷◌, ◌++◌, length, Some, None, Ok, Err, vec_items, Option, Result, nat_lt, slice_index}
use Rattle.sheet.specs.declared.answers.Refusal.{Refusal}
use Rattle.sheet.specs.declared.formulas.Formula.{Formula}
use Rattle.sheet.specs.declared.sheets.Sheet.{Sheet}
use Rattle.sheet.specs.Formulas.{reach}

pub record Contents : Type 0 where
  pub formulas : List Formula
  pub rules : List ℕ

abbrev pub empty : Contents
empty = record { formulas = []; rules = [] }

-- with a formula, or a rule, as the next of its kind

abbrev pub with_formula : Contents → Formula → Contents
with_formula c f = record { formulas = c.formulas ++ f ∷ []; rules = c.rules }

abbrev pub with_rule : Contents → ℕ → Contents
with_rule c r = record { formulas = c.formulas; rules = c.rules ++ r ∷ [] }

-- a sheet has no model, which would hide from the crates above that it obeys its conditions
abbrev pub of : Sheet → Contents
of s = record { formulas = vec_items s.formulas; rules = vec_items s.rules }

-- the reach of a rule is that of its formula; a rule that is not there has none
abbrev pub rule_reach : Contents → ℕ → Option ℕ
rule_reach c k = cond (nat_lt k (length c.rules)) (reach c.formulas (slice_index c.rules k)) None

-- an item is added: where nothing refuses it, the contents become those with it; else the refusal is
-- told, and they stay
abbrev pub Added : Option Refusal → Result (Unit {0}) Refusal → Contents → Contents → Contents → Type 0
Added None r before with after = (r ≡ Ok tt) × (after ≡ with)
Added (Some e) r before with after = (r ≡ Err e) × (after ≡ before)
