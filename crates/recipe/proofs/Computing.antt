-- Preparing and running with every definition open, for worked examples.
use mathlib.Core.List.{List}
use Prim.Native.Nat.{ℕ}
use Rattle.common.specs.Choice.{pick}
use Rattle.common.specs.Places.{tab}
use Rattle.common.specs.Answer.{Answer, then}
use Rattle.tree.specs.Calls.{calls, plain, cipher}
use Rattle.tree.specs.Bounds.{of_row, arguments_in, arguments_of, nodes}
use Rattle.tree.specs.Names.{unbound}
use Rattle.meaning.specs.Mean.{named, side_of, chosen, mean}
use Rattle.meaning.specs.Real.{cat, xor_byte, xor_bytes, xor, same, eq, head, Cipher, ciphered, real_two, real}
use Rattle.meaning.specs.Fold.{constant_of, known, gives, or_stays, side_or, fold_when, fold_one, fold_two, fold_three, fold_four, fold}
use Rattle.records.specs.Record.{record_of, front_of}
use Rattle.records.specs.Encode.{encode}
use Rattle.records.specs.Decode.{call_shape, shape_of, then_item, then_front, filled, constant_in, digit_in, one_in, two_in, three_in, four_in, by_shape, decode, whole_of, image_with, image_of}
use Rattle.lists.specs.Entries.{entry, between, preparing, running, among, with_first, then_entry, walk, list_of}
use Rattle.lists.specs.Given.{value_of, binding_of, running_of}
use Rattle.texts.specs.Unbound.{later, first, unbound_in}
use Rattle.texts.proofs.Examples.{reads}
use Rattle.recipe.specs.Prepare.{Prepared, sized, is_given, has, after_scan, after_list, after_read, prepared_of}
use Rattle.recipe.specs.Run.{meant_with, after_image, ran_of}

unfoldable pub prepares : Cipher → List ℕ → List ℕ → Prepared
unfolding
    prepared_of after_read after_list after_scan sized is_given has reads unbound_in later first list_of walk then_entry with_first among front_of preparing between entry binding_of value_of
    fold fold_one fold_two fold_three fold_four fold_when or_stays known gives side_or constant_of real real_two ciphered cat xor xor_bytes xor_byte eq same head side_of encode record_of pick tab
prepares cipher text list = prepared_of cipher text list

unfoldable pub runs : Cipher → List ℕ → List ℕ → Answer
unfolding
    ran_of after_image meant_with image_of image_with whole_of decode then_front front_of then_item filled constant_in digit_in one_in two_in three_in four_in by_shape shape_of call_shape arguments_of
    arguments_in of_row calls plain cipher nodes list_of walk then_entry with_first among running between entry running_of value_of mean named unbound then chosen side_of real real_two ciphered cat
    xor xor_bytes xor_byte eq same head pick tab
runs cipher bytes list = ran_of cipher bytes list
