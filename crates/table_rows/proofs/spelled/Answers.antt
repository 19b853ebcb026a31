use Rattle.std.proofs.Common.{arith, refl, ap, sym, ◌∙◌, ◌≡◌, ◌<◌, ◌+◌, ◌++◌, ℕ, zero, suc, List, [], ◌∷◌, length, take, drop, get_or, replicate, length-take, take-append-drop}
use Rattle.std.proofs.lemmas.Iterator.Consumers.{YieldsList-from_first, YieldsList-so_far, YieldsList-turn, YieldsList-end}
use Rattle.std.proofs.lemmas.List.{take_more, take-append-le, map-id, flat_map_more}
use Rattle.std.proofs.lemmas.List.Concat.{flat_map-append}
use Rattle.std.specs.List.{flat_map}
use Rattle.table_rows.specs.Spelling.{runs_of}
use Rattle.table_rows.specs.declared.Run.{Run}
use Rattle.table_rows.proofs.spelled.Goals.{in-None, in-Some+in_ok-put+then-len-most}
use Rattle.table_rows.proofs.spelled.Goals as goal

take-take_front : (n : ℕ) (s t : List ℕ) → take n (take n s ++ t) ≡ take n (s ++ t)
take-take_front zero s t = refl
take-take_front (suc n) [] t = refl
take-take_front (suc n) (x ∷ s) t = ap (λ u. x ∷ u) (take-take_front n s t)

-- one run more
with_run : (f : Run → List ℕ) (most : ℕ) (old new : List ℕ) (seen : List Run) (r : Run)
    → old ≡ take most (flat_map f seen) → new ≡ take most (old ++ f r) → new ≡ take most (flat_map f (seen ++ r ∷ []))
with_run f most old new seen r e q = q ∙ ap (λ u. take most (u ++ f r)) e ∙ take-take_front most (flat_map f seen) (f r) ∙ ap (take most) (flat_map_more f [] seen r)

-- the runs behind those that fill it count no more
filled : (f : Run → List ℕ) (runs seen : List Run) (r : Run) (most : ℕ) (s : List ℕ)
    → seen ≡ take (length seen) runs → (length seen < length runs) × (r ≡ get_or runs (length seen) r)
    → s ≡ take most (flat_map f (seen ++ r ∷ [])) → length s ≡ most → s ≡ take most (flat_map f runs)
filled f runs seen r most s e h q n =
    let front : seen ++ r ∷ [] ≡ take (length seen + 1) runs = ap (λ u. u ++ r ∷ []) e ∙ ap (λ x. take (length seen) runs ++ x ∷ []) h.1 ∙ sym (take_more runs (length seen) r h.0) in
    let whole : flat_map f runs ≡ flat_map f (seen ++ r ∷ []) ++ flat_map f (drop (length seen + 1) runs) =
    ap (flat_map f) (sym (take-append-drop (length seen + 1) runs) ∙ ap (λ u. u ++ drop (length seen + 1) runs) (sym front)) ∙ flat_map-append f (seen ++ r ∷ []) (drop (length seen + 1) runs) in
    q ∙ sym (ap (take most) whole ∙ take-append-le most _ _ (omega (arith, length-take most (flat_map f (seen ++ r ∷ [])), ap length q)))

pub returns-clause-bytes : goal.returns-clause-bytes
returns-clause-bytes g c =
    let all = YieldsList-from_first (λ x. x) (λ s. runs_of _ s.0.now) {s = c.into_iter-run-iterator.result} _ (ap (λ s. runs_of _ s.0.now) c.into_iter-run-iterator.ensures.into_iter_gives) in
    let f = λ (r : Run). replicate r.count r.byte in
    elim c.match-next.branch [
      | in-None w ↦ (
          let e = YieldsList-end all c.loop-run.yielded _ c.loop-run.yielded_by _ c.next.new.self w.in-None.is c.next.ensures.steps in
          ap (λ b. b.items) w.bytes-is ∙ c.loop-run.invariant.0 ∙ ap (λ u. take c.args.most (flat_map f u)) (sym (map-id c.loop-run.yielded) ∙ e.0))
      | in-Some+in_ok-put+then-len-most w ↦ (
          let e = YieldsList-turn all c.loop-run.yielded _ c.loop-run.yielded_by _ c.next.new.self _ w.in-Some.is c.next.ensures.steps in
          let p = YieldsList-so_far all c.loop-run.yielded _ c.loop-run.yielded_by in
          let q : w.put.new.bytes.items ≡ take c.args.most (flat_map f (c.loop-run.yielded ++ w.in-Some.run' ∷ [])) =
          with_run f c.args.most c.loop-run.bytes.items _ c.loop-run.yielded w.in-Some.run' c.loop-run.invariant.0 w.in_ok-put.ensures.items in
          ap (λ b. b.items) w.bytes-is ∙ filled f _ c.loop-run.yielded w.in-Some.run' c.args.most w.put.new.bytes.items (sym (map-id c.loop-run.yielded) ∙ p) e q (omega arith))
    ]
