use Rattle.std.proofs.Common.{rules}
use Rattle.std.proofs.lemmas.List.Sorted.{answers_always}
use Rattle.judge.proofs.Falls.{falls_unless, no_later}
use Rattle.judge.proofs.checks.falls.Goals as goal

pub returns : goal.returns
returns c = falls_unless c.args.log.now c.is_sorted_by.result (c.is_sorted_by.ensures.cases no_later (answers_always _ _ _ (λ f a r g h. search rules)))
