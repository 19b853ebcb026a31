use Rattle.std.proofs.Common.{length, sym, subst, arith}
use Rattle.blocks.proofs.Widths.{eight_is}
use Rattle.words.specs.Words.{Walked}
use Rattle.rounds.specs.Rounds.{key_at}
use Rattle.open_laws.specs.Opening.{last_round}
use Rattle.open_laws.proofs.Cells.{room_at}
use Rattle.open_last.proofs.last_blocks.Goals as goal

pub lasts-requires : goal.lasts-requires
lasts-requires c = let r = room_at 2 c.args.c c.args.n c.args.at (length c.args.s.now) (length c.args.ks.now) c.if-c-eq2.true c.requires.2 c.requires.3 in (c.requires.0, omega arith, r.0, r.1)

pub returns-then-c-eq2 : goal.returns-then-c-eq2
returns-then-c-eq2 c = subst (λ d. Walked d c.args.n (last_round d (key_at d c.args.ks.now c.args.at)) c.args.s.now c.lasts.new.s) (sym c.if-c-eq2.true) c.lasts.ensures

pub lasts-requires-then-c-eq4 : goal.lasts-requires-then-c-eq4
lasts-requires-then-c-eq4 c = let r = room_at 4 c.args.c c.args.n c.args.at (length c.args.s.now) (length c.args.ks.now) c.if-c-eq4.true c.requires.2 c.requires.3 in (c.requires.0, omega arith, r.0, r.1)

pub returns-then-c-eq4 : goal.returns-then-c-eq4
returns-then-c-eq4 c = subst (λ d. Walked d c.args.n (last_round d (key_at d c.args.ks.now c.args.at)) c.args.s.now c.lasts-then-c-eq4.new.s) (sym c.if-c-eq4.true) c.lasts-then-c-eq4.ensures

pub lasts-requires-else-c-eq4 : goal.lasts-requires-else-c-eq4
lasts-requires-else-c-eq4 c = let r = room_at 8 c.args.c c.args.n c.args.at (length c.args.s.now) (length c.args.ks.now) (eight_is c.args.c c.requires.1 c.if-c-eq2.false c.if-c-eq4.false) c.requires.2 c.requires.3 in (c.requires.0, omega arith, r.0, r.1)

pub returns-else-c-eq4 : goal.returns-else-c-eq4
returns-else-c-eq4 c = subst (λ d. Walked d c.args.n (last_round d (key_at d c.args.ks.now c.args.at)) c.args.s.now c.lasts-else-c-eq4.new.s) (sym (eight_is c.args.c c.requires.1 c.if-c-eq2.false c.if-c-eq4.false)) c.lasts-else-c-eq4.ensures
