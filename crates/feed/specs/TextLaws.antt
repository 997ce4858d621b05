-- That text is a format, and a text feed a feed: its faults are its own. Assumes nothing.
use Rattle.std.specs.Prelude.{ℕ, suc, List, [], ◌∷◌, drop}
use Rattle.std.proofs.Common.{arith}
use Rattle.feed.specs.declared.answers.Ending.{Ending}
use Rattle.feed.specs.declared.answers.Ending.TheVariants.{Fault as Faulty}
use Rattle.feed.specs.declared.text.machine.State.{State}
use Rattle.feed.specs.declared.text.machine.State.TheVariants.{Start, Time, Space, Marks, Hyphen}
use Rattle.feed.specs.declared.text.machine.Step.{Step}
use Rattle.feed.specs.declared.text.machine.Step.TheVariants.{On, Line as Done, Wrong as NoStep}
use Rattle.feed.specs.Bytes as over
use Rattle.feed.specs.Codes.{fault}
use Rattle.feed.specs.Machine.{cause, end_from, step, stop}
use Rattle.feed.specs.Meaning.{FeedFault, FeedEnding, FeedLayer, Laws}
use Rattle.feed.specs.Text.{end_at, ending, lengths, lines, lines_at, long}

by_step : (P : Ending → Type 0) (s : State) (p : ℕ) (bs : List ℕ) (y : Step) → ((t : State) (q : ℕ) → P (end_from t q bs)) → P (Faulty (fault 4 (cause s) p)) → P (elim y as (λ _. Ending) [ On t ↦ end_from t (suc p) bs | Done l ↦ end_from Start (suc p) bs | NoStep ↦ Faulty (fault 4 (cause s) p) ])
by_step P s p bs (On t) more wrong = more t (suc p)
by_step P s p bs (Done l) more wrong = more Start (suc p)
by_step P s p bs NoStep more wrong = wrong

lawful_cause : (s : State) (p : ℕ) → FeedFault (fault 4 (cause s) p)
lawful_cause Start p = omega arith
lawful_cause (Time t) p = omega arith
lawful_cause (Space t) p = omega arith
lawful_cause (Marks t m) p = omega arith
lawful_cause (Hyphen t) p = omega arith

lawful_stop : (s : State) (p : ℕ) → FeedEnding (stop s p)
lawful_stop Start p = tt
lawful_stop (Time t) p = omega arith
lawful_stop (Space t) p = omega arith
lawful_stop (Marks t m) p = omega arith
lawful_stop (Hyphen t) p = omega arith

lawful_end : (bs : List ℕ) (s : State) (p : ℕ) → FeedEnding (end_from s p bs)
unfolding end_from
lawful_end [] s p = lawful_stop s p
lawful_end (b ∷ bs) s p = by_step FeedEnding s p bs (step s b) (λ t q. lawful_end bs t q) (lawful_cause s p)

pub layer : FeedLayer 4
layer = omega arith

pub faults : (bytes : List ℕ) (at : ℕ) → FeedEnding (end_at bytes at)
faults bytes at = lawful_end (drop at bytes) Start at

pub laws : Laws 4 lines lengths ending
laws = over.laws lines_at long end_at layer faults
