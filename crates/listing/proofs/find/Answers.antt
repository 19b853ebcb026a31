use Rattle.std.proofs.Common.{◌≡◌, sym, ap, ◌∙◌, arith, Ok}
use Rattle.listing.proofs.Finding.{sought_starts, found_here, found_later, found_none, found_bad}
use Rattle.listing.proofs.Entries.{ok_some, ok_none, entry_holds}
use Rattle.listing.proofs.Walking.{goes_on}
use Rattle.listing.specs.Walk.{Of, entry_at}
use Rattle.listing.proofs.find.Goals as goal
use Rattle.listing.proofs.find.Goals.{In-Some}

-- the record that stands there
stands : (c : In-Some) → entry_at c.args.s.now c.loop-e.at ≡ Of c.in-Some.e.kind c.in-Some.e.start c.in-Some.e.length
stands c = sym c.entry_of.ensures ∙ ok_some _ _ _ c.ok.ensures.value c.in_ok-e.was ∙ ap Ok c.in-Some.is

pub loop-e-init : goal.loop-e-init
loop-e-init c = sought_starts c.args.s.now c.args.k

pub returns-then-e-k : goal.returns-then-e-k
returns-then-e-k c = found_here c.args.s.now c.args.k c.loop-e.at c.loop-e.invariant _ _ _ (stands (goal.at.returns-then-e-k c).In-Some) c.if-e-k.true

pub overflow_add-at : goal.overflow_add-at
overflow_add-at c = omega (arith, (goes_on _ _ _ _ _ (entry_holds _ _ _ _ _ (stands (goal.at.overflow_add-at c).In-Some))).1, c.well_formed)

pub loop-e-smaller : goal.loop-e-smaller
loop-e-smaller c = let g = goes_on _ _ _ _ _ (entry_holds _ _ _ _ _ (stands (goal.at.loop-e-smaller c).In-Some)) in omega (arith, g.0, g.1)

pub loop-e-preserved : goal.loop-e-preserved
loop-e-preserved c = found_later c.args.s.now c.args.k c.loop-e.at c.loop-e.invariant _ _ _ (stands (goal.at.loop-e-preserved c).In-Some) c.if-e-k.false

pub returns-in_err-e : goal.returns-in_err-e
returns-in_err-e c = c.from_residual.ensures ∙ found_bad c.args.s.now c.args.k c.loop-e.at c.loop-e.invariant _ c.entry_of.ensures (ok_none _ _ c.ok.ensures.value c.in_err-e.was)

pub returns : goal.returns
returns c = found_none c.args.s.now c.args.k c.loop-e.at c.loop-e.invariant _ c.entry_of.ensures (ok_some _ _ _ c.ok.ensures.value c.in_ok-e.was ∙ ap Ok c.in_default.is)
