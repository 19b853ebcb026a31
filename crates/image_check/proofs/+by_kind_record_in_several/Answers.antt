use borrow.Author.Rules.{rules}
use Rattle.std.proofs.Common.{◌≡◌, ℕ, ap, sym, ◌∙◌, arith}
use Rattle.image_check.proofs.Ways.{as_constant, as_row, as_run, as_bound, not_bound, call_fits, call_fails, call_unfilled, several_within, several_none, several_fails, several_more, part_within, no_levels, record_cut, record_room, record_opened}
use Rattle.image_check.proofs.Calls.{no_call}
use Rattle.records.specs.Decode.{decode}
use Rattle.kinds.proofs.Quick.{arguments_few, if_none, if_some}
use Rattle.kinds.proofs.Needs.{higher}
use Rattle.kinds.specs.Tables.{need_number}
use Rattle.tree.specs.Bounds.{arguments_of}
use Rattle.image_check.specs.Check.{counted}
use Rattle.image_check.proofs.+by_kind_record_in_several.Goals as goal
use Rattle.image_check.proofs.+by_kind_record_in_several.Goals.{by_kind-In_ok-n-in_default}

pub by_kind-returns-in-1 : goal.by_kind-returns-in-1
by_kind-returns-in-1 t c = as_constant (decode c.args.inner c.args.levels) c.args.inner c.args.k c.args.p.now _ c.in-1.is c.constant_in.ensures

pub by_kind-returns-in-2 : goal.by_kind-returns-in-2
by_kind-returns-in-2 t c = as_row (decode c.args.inner c.args.levels) c.args.inner c.args.k c.args.p.now _ c.in-2.is c.digit_in.ensures

pub by_kind-returns-in-3 : goal.by_kind-returns-in-3
by_kind-returns-in-3 t c = as_run (decode c.args.inner c.args.levels) c.args.inner c.args.k c.args.p.now _ c.in-3.is c.digit_in-in-3.ensures

pub by_kind-returns-then-inner : goal.by_kind-returns-then-inner
by_kind-returns-then-inner t c = as_bound (decode c.args.inner c.args.levels) c.args.inner c.args.k c.args.p.now _ c.in-4.is c.if-inner.true c.digit_in-then-inner.ensures

pub by_kind-returns-else-inner : goal.by_kind-returns-else-inner
by_kind-returns-else-inner t c = not_bound (decode c.args.inner c.args.levels) c.args.inner c.args.k c.args.p.now c.in-4.is c.if-inner.false

pub by_kind-returns-in_err-n-in_default : goal.by_kind-returns-in_err-n-in_default
by_kind-returns-in_err-n-in_default t c =
    ap counted c.from_residual.ensures
    ∙ no_call (decode c.args.inner c.args.levels) c.args.inner c.args.p.now c.args.k (λ e. omega arith) (λ e. omega arith) (λ e. omega arith) (λ e. omega arith) (if_none _ (sym c.arguments.ensures ∙ c.in_err-n-in_default.was))

-- how many arguments the call takes, and that it takes some
taken : {t : ℕ} (c : by_kind-In_ok-n-in_default t) → (c.in_ok-n-in_default.n ≡ arguments_of c.args.k) × (c.in_ok-n-in_default.n ≡ 0 → ⊥)
taken c = if_some _ _ (sym c.arguments.ensures ∙ c.in_ok-n-in_default.was)

pub by_kind-several-requires : goal.by_kind-several-requires
by_kind-several-requires t c = let few = arguments_few c.args.k in let (e, z) = taken (goal.at.by_kind-several-requires t c).In_ok-n-in_default in search rules

pub by_kind-returns-in_err-a-in_default : goal.by_kind-returns-in_err-a-in_default
by_kind-returns-in_err-a-in_default t c =
    let (e, z) = taken (goal.at.by_kind-returns-in_err-a-in_default t c).In_ok-n-in_default in
    ap counted c.from_residual-in_err-a-in_default.ensures ∙ call_fails (decode c.args.inner c.args.levels) c.args.inner c.args.k _ c.args.p.now _ e z c.several.ensures (ap counted c.in_err-a-in_default.was)

pub by_kind-overflow_add-result-then-a-p : goal.by_kind-overflow_add-result-then-a-p
by_kind-overflow_add-result-then-a-p t c = let w = several_within c.args.inner c.args.levels c.args.p.now _ _ _ _ _ c.several.ensures (ap counted c.in_ok-a-in_default.was) in omega (arith, w.0, w.1, c.well_formed)

pub by_kind-returns-then-a-p : goal.by_kind-returns-then-a-p
by_kind-returns-then-a-p t c =
    let (e, z) = taken (goal.at.by_kind-returns-then-a-p t c).In_ok-n-in_default in
    call_fits (decode c.args.inner c.args.levels) c.args.inner c.args.k _ c.args.p.now _ e z c.several.ensures _ _ _ (ap counted c.in_ok-a-in_default.was) c.if-a-p.true _ _ c.tables_for.ensures (ap need_number c.max-need.ensures ∙ higher _ _)

pub by_kind-returns-else-a-p : goal.by_kind-returns-else-a-p
by_kind-returns-else-a-p t c =
    let (e, z) = taken (goal.at.by_kind-returns-else-a-p t c).In_ok-n-in_default in
    call_unfilled (decode c.args.inner c.args.levels) c.args.inner c.args.k _ c.args.p.now _ e z c.several.ensures _ _ _ (ap counted c.in_ok-a-in_default.was) c.if-a-p.false

pub record_in-returns-then-levels-eq0 : goal.record_in-returns-then-levels-eq0
record_in-returns-then-levels-eq0 t c = no_levels c.args.inner c.args.levels c.args.s.now c.if-levels-eq0.true

pub record_in-returns-in_err-h : goal.record_in-returns-in_err-h
record_in-returns-in_err-h t c = ap counted c.from_residual.ensures ∙ record_cut c.args.inner c.args.levels c.args.s.now c.if-levels-eq0.false _ c.head_at.ensures c.in_err-h.was

pub record_in-overflow_add-e : goal.record_in-overflow_add-e
record_in-overflow_add-e t c = omega (arith, record_room c.args.inner c.args.levels c.args.s.now c.if-levels-eq0.false _ c.head_at.ensures _ _ c.in_ok-h.was, c.well_formed)

pub record_in-slice_bounds-p-end : goal.record_in-slice_bounds-p-end
record_in-slice_bounds-p-end t c = omega (arith, record_room c.args.inner c.args.levels c.args.s.now c.if-levels-eq0.false _ c.head_at.ensures _ _ c.in_ok-h.was)

pub record_in-by_kind-requires : goal.record_in-by_kind-requires
record_in-by_kind-requires t c = let w = record_room c.args.inner c.args.levels c.args.s.now c.if-levels-eq0.false _ c.head_at.ensures c.in_ok-h.h.kind c.in_ok-h.h.length c.in_ok-h.was in search rules

pub record_in-returns : goal.record_in-returns
record_in-returns t c = record_opened c.args.inner c.args.levels c.args.s.now c.if-levels-eq0.false _ c.head_at.ensures _ _ _ c.in_ok-h.was c.by_kind.ensures

pub several-returns-then-left-eq0 : goal.several-returns-then-left-eq0
several-returns-then-left-eq0 t c = several_none c.args.inner c.args.levels c.args.p.now c.args.left _ _ _ c.if-left-eq0.true

pub several-returns-in_err-a : goal.several-returns-in_err-a
several-returns-in_err-a t c = ap counted c.from_residual.ensures ∙ several_fails c.args.inner c.args.levels c.args.p.now c.args.left _ _ _ c.if-left-eq0.false _ c.record_in.ensures (ap counted c.in_err-a.was)

pub several-overflow_add-with : goal.several-overflow_add-with
several-overflow_add-with t c = let w = part_within c.args.inner c.args.levels c.args.p.now c.args.before.used _ _ _ _ c.requires.1 c.record_in.ensures (ap counted c.in_ok-a.was) in omega (arith, w.1, c.well_formed)

pub several-overflow_add-with-2 : goal.several-overflow_add-with-2
several-overflow_add-with-2 t c = let w = part_within c.args.inner c.args.levels c.args.p.now c.args.before.used _ _ _ _ c.requires.1 c.record_in.ensures (ap counted c.in_ok-a.was) in omega (arith, w.0, w.1, c.well_formed)

pub several-several-requires : goal.several-several-requires
several-several-requires t c = let w = part_within c.args.inner c.args.levels c.args.p.now c.args.before.used _ _ _ _ c.requires.1 c.record_in.ensures (ap counted c.in_ok-a.was) in search rules

pub several-returns : goal.several-returns
several-returns t c = several_more c.args.inner c.args.levels c.args.p.now c.args.left _ _ _ c.if-left-eq0.false _ c.record_in.ensures _ _ _ _ _ (ap counted c.in_ok-a.was) (ap need_number c.max.ensures ∙ higher _ _) c.several.ensures
