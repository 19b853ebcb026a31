-- The one table of calls (document 01, sections 5 and 6): letters, kind, number of arguments, and whether a suite digit follows.
use Rattle.std.specs.Prelude.{Bool, true, false, List, [], ◌∷◌, ℕ}

pub record Call : Type 0 where
  pub letters : List ℕ  -- as the text has them
  pub kind : ℕ  -- of the record; a suite is added to it
  pub arguments : ℕ
  pub suited : Bool  -- a cipher call: a `.` and a suite digit follow the letters

unfoldable pub plain : List ℕ → ℕ → ℕ → Call
plain letters kind arguments = record { letters = letters; kind = kind; arguments = arguments; suited = false }

unfoldable pub cipher : List ℕ → ℕ → ℕ → Call
cipher letters kind arguments = record { letters = letters; kind = kind; arguments = arguments; suited = true }

unfoldable pub calls : List Call
calls =
    plain (99 ∷ 97 ∷ 116 ∷ []) 0x0010 2  -- cat
    ∷ plain (120 ∷ 111 ∷ 114 ∷ []) 0x0011 2  -- xor
    ∷ plain (101 ∷ 113 ∷ []) 0x0012 2  -- eq
    ∷ plain (104 ∷ 101 ∷ 97 ∷ 100 ∷ []) 0x0013 2  -- head
    ∷ plain (119 ∷ 104 ∷ 101 ∷ 110 ∷ []) 0x0014 3  -- when
    ∷ cipher (98 ∷ 108 ∷ 107 ∷ []) 0x0100 2  -- blk
    ∷ cipher (117 ∷ 110 ∷ 98 ∷ 108 ∷ 107 ∷ []) 0x0110 2  -- unblk
    ∷ cipher (99 ∷ 116 ∷ 114 ∷ []) 0x0120 3  -- ctr
    ∷ cipher (111 ∷ 102 ∷ 98 ∷ []) 0x0130 3  -- ofb
    ∷ cipher (99 ∷ 102 ∷ 98 ∷ []) 0x0140 3  -- cfb
    ∷ cipher (117 ∷ 110 ∷ 99 ∷ 102 ∷ 98 ∷ []) 0x0150 3  -- uncfb
    ∷ cipher (99 ∷ 98 ∷ 99 ∷ []) 0x0160 3  -- cbc
    ∷ cipher (117 ∷ 110 ∷ 99 ∷ 98 ∷ 99 ∷ []) 0x0170 3  -- uncbc
    ∷ cipher (99 ∷ 98 ∷ 112 ∷ []) 0x0180 3  -- cbp
    ∷ cipher (117 ∷ 110 ∷ 99 ∷ 98 ∷ 112 ∷ []) 0x0190 3  -- uncbp
    ∷ cipher (109 ∷ 97 ∷ 99 ∷ []) 0x01A0 2  -- mac
    ∷ cipher (99 ∷ 104 ∷ 107 ∷ []) 0x01B0 3  -- chk
    ∷ []
