-- What is handed out is what the image means.
use mathlib.Core.Path.{◌≡◌, refl, ap, sym, ◌∙◌}
use mathlib.Core.List.{List}
use Prim.Native.Nat.{ℕ, ◌+◌, ◌-◌, ◌≤◌, ◌<◌}
use native.Mathlib.Omega.{arith}
use lib.ListN.{length, take}
use lib.Seq.{take-length}
use Rattle.common.specs.Answer.{Delivered, deliver}
use Rattle.common.specs.Answer.Answer.{value}
use Rattle.tree.specs.Bounds.{Bytes}
use Rattle.meaning.specs.Mean.{named, mean}
use Rattle.meaning.specs.Real.{real}
use Rattle.meaning.proofs.Within.{one_level}
use Rattle.records.specs.Record.{word}
use Rattle.lists.specs.Entries.{running}
use Rattle.lists.specs.Given.{binding_of, running_of}
use Rattle.recipe.specs.Run.{ran_of}
use Rattle.leaf.specs.Place.{place_of, placed}
use Rattle.lookup.specs.Table.{seal_table, open_table}
use Rattle.substitutions.specs.Tables.{substitutions, unsubstitutions}
use Rattle.lent.specs.declared.Tables.{Tables}
use Rattle.lent.specs.Lent.{Serves}
use Rattle.modes.specs.Cell.{cell_of}
use Rattle.answers.specs.declared.Refusal.{Refusal}
use Rattle.std.specs.Prelude.{Result, Ok, Err}
use Rattle.answers.specs.Told.{told_of}
use Rattle.handing.proofs.Giving.{refuses}
use Rattle.slots.specs.Slots.{At}
use Rattle.slots.proofs.Standing.{has_of, refused_of}
use Rattle.evaluating.specs.Stretch.{Stretch, Ready, Means}
use Rattle.evaluating.proofs.Readied.{head_room}
use Rattle.evaluating.proofs.Meant.{leaf_means}
use Rattle.runner.specs.Sound.{Sound, Served}

module _ (image list : List ℕ) (need : ℕ) (S : Sound image list need) where
  -- the image is the stretch of its tree's record
  whole_stretch : Stretch image 0 (length image) S.tree
  whole_stretch =
      let z : length image - 0 ≡ length image = omega arith in
      record {
        proper = S.within.proper;
        small = S.within.small;
        order = omega arith;
        inside = omega arith;
        is = ap (λ n. take n image) z ∙ take-length image ∙ S.whole;
      }

  -- its head's four bytes are there
  pub sound_head : 4 ≤ length image
  sound_head = let h = head_room image 0 (length image) S.tree whole_stretch in omega arith

  -- a leaf at the root
  pub root_leaf : (d : Delivered) (out : List ℕ) → Bytes list → word image 2 < 0x0010 → d ≡ deliver (named (placed image list (place_of image 0 list))) out → d ≡ deliver (ran_of cell_of image list) out
  root_leaf d out hl k e =
      let z : 0 + 2 ≡ 2 = refl in
      e ∙ ap (λ x. deliver x out) (leaf_means running list S.entries hl S.good image 0 (length image) S.tree whole_stretch k ∙ sym S.means)

-- tables
pub serves_none : (t : Tables) → Serves 0 t
serves_none t = record { sealing = λ q. absurd (omega arith); opening = λ q. absurd (omega arith); forward = λ q. absurd (omega arith); backward = λ q. absurd (omega arith) }

pub serves_sealing : (t : Tables) → t.seal.now ≡ seal_table → Serves 1 t
serves_sealing t e = record { sealing = λ q. e; opening = λ q. absurd (omega arith); forward = λ q. absurd (omega arith); backward = λ q. absurd (omega arith) }

pub serves_all : (n : ℕ) (t : Tables) → t.seal.now ≡ seal_table → t.unseal.now ≡ open_table → t.forward.now ≡ substitutions → t.backward.now ≡ unsubstitutions → Serves n t
serves_all n t a b c d = record { sealing = λ q. a; opening = λ q. b; forward = λ q. c; backward = λ q. d }

pub served : (image list : List ℕ) (tables : Tables) (need : ℕ) → Sound image list need → Serves need tables → Served image list tables
served image list tables need S L = record { need = need; sound = S; lent = L }

-- `value_of`
module _ (image list : List ℕ) (tables : Tables) (G : Served image list tables) where
  abbrev S : Sound image list G.need
  S = G.sound

  pub run_ready : (room : ℕ) → 47104 ≤ room → Ready image list tables 0 (length image) 0 room
  run_ready room h =
      let d = S.within.shallow in
      let l = one_level S.tree in
      record {
        tree = S.tree;
        stretch = whole_stretch image list G.need S;
        taken = running;
        entries = S.entries;
        good = S.good;
        need = G.need;
        enough = (let q = S.tables in omega arith);
        lent = G.lent;
        slots = omega arith;
      }

  module _ (r : Result ℕ Refusal) (w w1 : List ℕ) (A : Means image list 0 (length image) 0 r w w1) where
    told : At (mean (real cell_of) (binding_of S.entries) (running_of S.entries) S.tree) 0 r w w1
    unfolding Means
    told = A running S.entries S.tree S.good (whole_stretch image list G.need S)

    pub run_refused : (n : Refusal) (out : List ℕ) → r ≡ Err n → told_of (Err n) out ≡ deliver (ran_of cell_of image list) out
    run_refused n out e = refuses n out ∙ sym (ap (λ x. deliver x out) (S.means ∙ refused_of _ 0 n r w w1 told e))

    pub run_small : (n : ℕ) → r ≡ Ok n → n ≤ 1024
    run_small n e = (has_of _ 0 n r w w1 told e).small

    pub run_value : (n : ℕ) (out : List ℕ) (d : Delivered) → r ≡ Ok n → d ≡ deliver (value (take n w1)) out → d ≡ deliver (ran_of cell_of image list) out
    run_value n out d e h =
        let H = has_of _ 0 n r w w1 told e in
        h ∙ ap (λ x. deliver x out) (ap value H.bytes ∙ sym (S.means ∙ H.is))
