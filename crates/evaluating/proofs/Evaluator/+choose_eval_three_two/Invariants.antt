use Prim.Native.Nat.{◌+◌, ◌*◌, ◌-◌}
use Rattle.evaluating.proofs.Evaluator.+choose_eval_three_two.Given as goal

abbrev pub decreases-choose : goal.decreases-choose
decreases-choose l = 8 * (l.end - l.start) + 0

abbrev pub decreases-eval : goal.decreases-eval
decreases-eval l = 8 * (l.end - l.start) + 1

abbrev pub decreases-three : goal.decreases-three
decreases-three l = 8 * (l.end - l.start) + 0

abbrev pub decreases-two : goal.decreases-two
decreases-two l = 8 * (l.end - l.start) + 0
