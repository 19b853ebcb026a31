use Rattle.std.proofs.Common.{◌≡◌, ap, rules}
use Rattle.text_reader.proofs.Answers as answers
use Rattle.text_reader.specs.Reader.{parsed, cleared}
use Rattle.texts.specs.Reading.{read_text}
use Rattle.text_reader.proofs.read.Goals as goal

pub returns-in-Ok : goal.returns-in-Ok
returns-in-Ok c = answers.answers_fine (read_text c.args.text.now) (parsed c.whole.result) _ _ _ c.whole.ensures (ap parsed c.in-Ok.is)

pub returns-in-Err : goal.returns-in-Err
unfolding cleared
returns-in-Err c = let z : c.fill.new.self ≡ cleared c.whole.new.out = search rules in answers.answers_no (read_text c.args.text.now) (parsed c.whole.result) _ _ _ _ _ c.whole.ensures (ap parsed c.in-Err.is) c.whole.auto.out z
