-- What was read is decoded from the records again, `#` included, and its records fit 12,288 bytes.
use mathlib.Core.Bool.{true}
use mathlib.Core.List.{List, ◌++◌}
use mathlib.Core.Path.{◌≡◌, ap, ◌∙◌}
use Prim.Native.Nat.{ℕ, ◌*◌, ◌≤◌}
use native.Mathlib.Omega.{arith}
use lib.ListN.{length, drop}
use Rattle.common.proofs.Choices.{true_false}
use Rattle.tree.specs.Tree.{Tree}
use Rattle.tree.specs.Reading.Read.{got}
use Rattle.records.specs.Encode.{encode}
use Rattle.records.specs.Decode.{decode}
use Rattle.records.specs.Decode.Item.{item}
use Rattle.records.proofs.There.{decode_encode}
use Rattle.texts.specs.Reading.{read_text}
use Rattle.texts.proofs.Back.{read_back}
use Rattle.recipe.proofs.Reach.{encode_reach}
use Rattle.text_reader.specs.Reader.{Parsed, out_of, Answers}

-- a reader's records stand for the text's tree
pub read_decodes : (s : List ℕ) (t : Tree) (r : Parsed) (before after : List ℕ) → read_text s ≡ got t → Answers (read_text s) r before after
    → decode true 16 after ≡ item t (length (encode t))
unfolding out_of
read_decodes s t r before after e A =
    let (text, within) = read_back s t e in
    let wrote : after ≡ encode t ++ drop (length (encode t)) before = A.wrote ∙ ap (λ i. out_of i before) e in
    ap (decode true 16) wrote
    ∙ decode_encode true t 16 (drop (length (encode t)) before) within.proper within.small (λ f. absurd (true_false f)) within.shallow

-- three bytes of records for each byte of text
pub read_fits : (s : List ℕ) (t : Tree) → read_text s ≡ got t → length (encode t) ≤ 3 * length s
read_fits s t e =
    let (text, within) = read_back s t e in
    let size = ap length text in
    omega (arith, encode_reach t)
