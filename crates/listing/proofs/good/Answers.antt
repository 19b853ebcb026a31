use Rattle.std.proofs.Common.{◌≡◌, ◌<◌, sym, ap, ◌∙◌, arith, Ok}
use Rattle.listing.proofs.Walking.{walking_starts, good_other, good_twice, good_long, good_step, good_end, good_cut, goes_on}
use Rattle.listing.proofs.Entries.{Holds, entry_holds, entry_end, entry_cuts}
use Rattle.listing.proofs.Slots.{low_some, low_none}
use Rattle.listing.specs.Walk.{slot_of}
use Rattle.listing.proofs.good.Goals as goal
use Rattle.listing.proofs.good.Goals.{In-Ok-Some, In-Some}

-- the record that stands there, and the place of its kind
stands : (c : In-Ok-Some) → Holds c.args.s.now c.loop-e.at c.in-Ok-Some.e.kind c.in-Ok-Some.e.start c.in-Ok-Some.e.length
stands c = entry_holds _ _ _ _ _ (sym c.entry_of.ensures ∙ c.in-Ok-Some.is ∙ ap Ok c.in-Ok-Some.field-0-is)

placed : (c : In-Some) → (c.in-Some.i ≡ slot_of c.args.run c.in-Ok-Some.e.kind) × (c.in-Some.i < 16)
placed c = low_some _ _ (sym c.slot.ensures ∙ c.in-Some.is)

pub loop-e-init : goal.loop-e-init
loop-e-init c = walking_starts c.args.run c.args.s.now

pub returns-in_default : goal.returns-in_default
returns-in_default c = good_other c.args.run c.args.s.now c.loop-e.seen c.loop-e.at c.loop-e.invariant _ _ _ (stands (goal.at.returns-in_default c).In-Ok-Some) (low_none _ (sym c.slot.ensures ∙ c.in_default.is))

pub bounds-seen-i : goal.bounds-seen-i
bounds-seen-i c = (placed (goal.at.bounds-seen-i c).In-Some).1

pub returns-then-seen-i : goal.returns-then-seen-i
returns-then-seen-i c =
    let (e, l) = placed (goal.at.returns-then-seen-i c).In-Some in
    good_twice c.args.run c.args.s.now c.loop-e.seen c.loop-e.at c.loop-e.invariant _ _ _ (stands (goal.at.returns-then-seen-i c).In-Ok-Some) _ e l c.if-seen-i.true

pub returns-then-e-gt1024 : goal.returns-then-e-gt1024
returns-then-e-gt1024 c =
    let (e, l) = placed (goal.at.returns-then-e-gt1024 c).In-Some in
    good_long c.args.run c.args.s.now c.loop-e.seen c.loop-e.at c.loop-e.invariant _ _ _ (stands (goal.at.returns-then-e-gt1024 c).In-Ok-Some) _ e l c.if-seen-i.false c.if-e-gt1024.true

pub bounds-seen-i-in-Ok-Some : goal.bounds-seen-i-in-Ok-Some
bounds-seen-i-in-Ok-Some c = (placed (goal.at.bounds-seen-i-in-Ok-Some c).In-Some).1

pub overflow_add-at : goal.overflow_add-at
overflow_add-at c = omega (arith, (goes_on _ _ _ _ _ (stands (goal.at.overflow_add-at c).In-Ok-Some)).1, c.well_formed)

pub loop-e-smaller : goal.loop-e-smaller
loop-e-smaller c = let g = goes_on _ _ _ _ _ (stands (goal.at.loop-e-smaller c).In-Ok-Some) in omega (arith, g.0, g.1)

pub loop-e-preserved : goal.loop-e-preserved
loop-e-preserved c =
    let (e, l) = placed (goal.at.loop-e-preserved c).In-Some in
    good_step c.args.run c.args.s.now c.loop-e.seen c.loop-e.at c.loop-e.invariant _ _ _ (stands (goal.at.loop-e-preserved c).In-Ok-Some) _ e l c.if-seen-i.false c.if-e-gt1024.false

pub returns-in-Ok-None : goal.returns-in-Ok-None
returns-in-Ok-None c = good_end c.args.run c.args.s.now c.loop-e.seen c.loop-e.at c.loop-e.invariant (entry_end _ _ (sym c.entry_of.ensures ∙ c.in-Ok-None.is ∙ ap Ok c.in-Ok-None.field-0-is))

pub returns-in-Err : goal.returns-in-Err
returns-in-Err c = good_cut c.args.run c.args.s.now c.loop-e.seen c.loop-e.at c.loop-e.invariant (entry_cuts _ _ (sym c.entry_of.ensures ∙ c.in-Err.is))
