use Rattle.leaf.proofs.Ways.{from_image, from_list, from_nowhere}
use Rattle.leaf.proofs.leaf.Goals as goal

pub returns-in-Some-Image : goal.returns-in-Some-Image
returns-in-Some-Image c = let q = rw c.in-Some-Image.is at c.in-Some-Image.field-0-is in from_image c.args.image.now c.args.list.now _ c.args.place _ c.in-Some-Image.p c.in-Some-Image.is q c.part.ensures

pub returns-in-Some-List : goal.returns-in-Some-List
returns-in-Some-List c = let q = rw c.in-Some-List.is at c.in-Some-List.field-0-is in from_list c.args.image.now c.args.list.now _ c.args.place _ c.in-Some-List.p c.in-Some-List.is q c.part-in-Some-List.ensures

pub returns-in-None : goal.returns-in-None
returns-in-None c = from_nowhere c.args.image.now c.args.list.now c.args.place c.in-None.is
