-- The calls by their numbers (document 01, section 6).
use Prim.Native.Nat.{ℕ, zero, suc, ◌≤◌}
use native.Mathlib.Omega.{arith}
use Rattle.modes.specs.Cell.{Call, call_of}

-- every number stands for one of twelve
pub by_call : (P : ℕ → Call → Type 0) → P 0 Call.blk → P 1 Call.unblk → P 2 Call.ctr → P 3 Call.ofb → P 4 Call.cfb → P 5 Call.uncfb → P 6 Call.cbc → P 7 Call.uncbc → P 8 Call.cbp → P 9 Call.uncbp → P 10 Call.mac
    → ((f : ℕ) → 11 ≤ f → P f Call.chk) → (f : ℕ) → P f (call_of f)
unfolding call_of
by_call P h0 h1 h2 h3 h4 h5 h6 h7 h8 h9 h10 h11 zero = h0
by_call P h0 h1 h2 h3 h4 h5 h6 h7 h8 h9 h10 h11 (suc zero) = h1
by_call P h0 h1 h2 h3 h4 h5 h6 h7 h8 h9 h10 h11 (suc (suc zero)) = h2
by_call P h0 h1 h2 h3 h4 h5 h6 h7 h8 h9 h10 h11 (suc (suc (suc zero))) = h3
by_call P h0 h1 h2 h3 h4 h5 h6 h7 h8 h9 h10 h11 (suc (suc (suc (suc zero)))) = h4
by_call P h0 h1 h2 h3 h4 h5 h6 h7 h8 h9 h10 h11 (suc (suc (suc (suc (suc zero))))) = h5
by_call P h0 h1 h2 h3 h4 h5 h6 h7 h8 h9 h10 h11 (suc (suc (suc (suc (suc (suc zero)))))) = h6
by_call P h0 h1 h2 h3 h4 h5 h6 h7 h8 h9 h10 h11 (suc (suc (suc (suc (suc (suc (suc zero))))))) = h7
by_call P h0 h1 h2 h3 h4 h5 h6 h7 h8 h9 h10 h11 (suc (suc (suc (suc (suc (suc (suc (suc zero)))))))) = h8
by_call P h0 h1 h2 h3 h4 h5 h6 h7 h8 h9 h10 h11 (suc (suc (suc (suc (suc (suc (suc (suc (suc zero))))))))) = h9
by_call P h0 h1 h2 h3 h4 h5 h6 h7 h8 h9 h10 h11 (suc (suc (suc (suc (suc (suc (suc (suc (suc (suc zero)))))))))) = h10
by_call P h0 h1 h2 h3 h4 h5 h6 h7 h8 h9 h10 h11 (suc (suc (suc (suc (suc (suc (suc (suc (suc (suc (suc zero))))))))))) = h11 11 (omega arith)
by_call P h0 h1 h2 h3 h4 h5 h6 h7 h8 h9 h10 h11 (suc (suc (suc (suc (suc (suc (suc (suc (suc (suc (suc (suc f)))))))))))) = h11 (suc (suc (suc (suc (suc (suc (suc (suc (suc (suc (suc (suc f)))))))))))) (omega arith)
