-- What writing a folded record asks and says.
use Rattle.std.specs.Prelude.{◌≡◌, List, ℕ, ◌+◌, ◌≤◌, length}
use Rattle.record_out.specs.Put.{put}

-- the bytes fit the output from o on, and a record's two bytes of length
pub record Fitting (o : ℕ) (v out : List ℕ) : Type 0 where
  pub fits : o + length v ≤ length out
  pub few : length v ≤ 16384

-- they stand there, all else is as it was, and the place after them is told
pub record Written (o : ℕ) (v : List ℕ) (r : ℕ) (before after : List ℕ) : Type 0 where
  pub next : r ≡ o + length v
  pub wrote : after ≡ put before o v
