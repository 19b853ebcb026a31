use Prim.Native.Nat.{◌/◌}
use native.Mathlib.Omega.{arith}
use Rattle.stream_laws.proofs.Adding as adding
use Rattle.gamma_out.proofs.add_front.Goals as goal

pub returns : goal.returns
returns c = adding.front_added c.args.s.now c.args.text.now c.args.out.now c.xor_out.new.o c.xor_rest.new.o c.args.at c.args.n (c.args.n / 8) (omega arith) (omega (arith, c.requires)) c.xor_out.ensures c.xor_rest.ensures
