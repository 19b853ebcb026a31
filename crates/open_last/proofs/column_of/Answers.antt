use Rattle.open_last.proofs.Laws.{column_is}
use Rattle.open_last.proofs.column_of.Goals as goal

pub returns : goal.returns
returns c = column_is c.args.u.now c.args.a c.args.b c.args.c c.args.d c.args.e c.args.f c.args.g c.args.h _ _ _ _ _ _ _ _ c.byte_at.ensures.0 c.byte_at-2.ensures.0 c.byte_at-3.ensures.0 c.byte_at-4.ensures.0 c.byte_at-5.ensures.0 c.byte_at-6.ensures.0 c.byte_at-7.ensures.0 c.byte_at-8.ensures.0
