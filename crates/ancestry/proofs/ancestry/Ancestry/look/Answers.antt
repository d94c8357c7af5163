use Rattle.std.proofs.Common.{◌≡◌, ◌<◌, ◌+◌, ◌||◌, ℕ, List, false, sym, ap, ◌∙◌, subst, arith, slice_index_or, take}
use Rattle.std.specs.List.{list_any}
use Rattle.std.specs.Ordering.{nat_cmp}
use Rattle.std.proofs.lemmas.Map.Views.{All-insert_key}
use Rattle.ancestry.specs.Walks.{AreLower, is_ancestor}
use Rattle.ancestry.specs.Named.{AreNamers, names}
use Rattle.ancestry.proofs.Naming.{goes_up, led, leads, look_none, look_all, look_open, look_out, any_inserted, not_above, not_led, not_named}
use Rattle.ancestry.proofs.ancestry.Ancestry.look.Goals.{then-s-b+then-names+in-Some-false, then-s-b+then-names+in-None+in_ok-insert-in-None, else-s-b, else-s-b-via-then-s-b+else-names, else-s-b-via-else-s-b}
use Rattle.ancestry.proofs.ancestry.Ancestry.look.Goals as goal

pub loop-namer-init : goal.loop-namer-init
loop-namer-init c = record {
  goes_on = look_none c.args.self.now c.args.p c.args.b c.as_slice-namer-items.result.now (list_any (λ k. is_ancestor c.args.self.now k c.args.b) c.args.pending.now.keys);
  lower = λ h. h;
}

pub returns-in-Some-true-clause-found : goal.returns-in-Some-true-clause-found
returns-in-Some-true-clause-found c _ =
    let lower : AreLower c.args.self.now = subst AreLower c.self.view_is c.self.invariant.lower in
    led c.args.self.now c.args.p (slice_index_or c.as_slice-namer-items.result.now c.loop-namer.namer-index 0) c.args.b lower (sym c.if-names.ensures) (sym c.in-Some-true.ensures.told ∙ c.in-Some-true.field-0-test)

pub returns-in-Some-true-clause-lower : goal.returns-in-Some-true-clause-lower
returns-in-Some-true-clause-lower c = c.loop-namer.invariant.lower

pub loop-namer-preserved : goal.loop-namer-preserved
loop-namer-preserved c =
    let graph = c.args.self.now in
    let lower : AreLower graph = subst AreLower c.self.view_is c.self.invariant.lower in
    let namers = c.as_slice-namer-items.result.now in
    let s = slice_index_or namers c.loop-namer.namer-index 0 in
    let before = list_any (λ k. is_ancestor graph k c.args.b) c.args.pending.now.keys in
    let now = list_any (λ k. is_ancestor graph k c.args.b) c.loop-namer.pending.keys in
    let out : goes_up graph c.args.p c.args.b s ≡ false → now ≡ (before || list_any (goes_up graph c.args.p c.args.b) (take (c.loop-namer.namer-index + 1) namers)) =
    λ none. look_out graph c.args.p c.args.b c.loop-namer.namer-index namers now before c.loop-namer-test.true none c.loop-namer.invariant.goes_on in
    elim c.if-s-b.branch [
      | then-s-b+then-names+in-Some-false w ↦ rw (w.pending-is) record {
        goes_on = out (not_led (names graph s c.args.p) (leads graph c.args.b s) (sym w.in-Some-false.ensures.told ∙ w.in-Some-false.field-0-test));
        lower = c.loop-namer.invariant.lower;
      }
      | then-s-b+then-names+in-None+in_ok-insert-in-None w ↦
          let keys = w.in_ok-insert-in-None.ensures.keys in
          rw (w.pending-is) record {
            goes_on = look_open graph c.args.p c.args.b c.loop-namer.namer-index namers now (list_any (λ k. is_ancestor graph k c.args.b) w.insert.new.self.keys) before c.loop-namer-test.true
                (sym w.if-names.ensures) w.in-None.ensures.apart
                (ap (list_any (λ k. is_ancestor graph k c.args.b)) keys ∙ any_inserted (λ k. is_ancestor graph k c.args.b) c.loop-namer.pending.keys s) c.loop-namer.invariant.goes_on;
            lower = λ h. rw keys (All-insert_key nat_cmp s (λ k. k < c.args.b) c.loop-namer.pending.keys (c.loop-namer.invariant.lower h) w.in-None.ensures.apart);
          }
      | else-s-b w ↦ rw (w.pending-is) record {
        goes_on = out (elim w.else-s-b.branch [
          | else-s-b-via-then-s-b+else-names w' ↦ not_named (names graph s c.args.p) (leads graph c.args.b s) (sym w'.if-names.ensures)
          | else-s-b-via-else-s-b w' ↦ not_led (names graph s c.args.p) (leads graph c.args.b s) (not_above graph c.args.b s lower w'.if-s-b.false)
        ]);
        lower = c.loop-namer.invariant.lower;
      }
    ]

pub returns-clause-goes_on : goal.returns-clause-goes_on
returns-clause-goes_on c _ =
    let graph = c.args.self.now in
    let lower : AreLower graph = subst AreLower c.self.view_is c.self.invariant.lower in
    let are : AreNamers graph c.self.inside.namers.items = subst (λ (g : List (List ℕ)). AreNamers g c.self.inside.namers.items) c.self.view_is c.self.invariant.named in
    look_all graph c.self.inside.namers.items c.as_slice-namer-items.result.now c.args.p c.args.b c.loop-namer.namer-index (list_any (λ k. is_ancestor graph k c.args.b) c.loop-namer.pending.keys)
    (list_any (λ k. is_ancestor graph k c.args.b) c.args.pending.now.keys) lower are (omega (arith, c.requires.below, c.requires.held)) (rw c.as_slice-namer-items.ensures c.index.ensures) c.loop-namer-test.false
    c.loop-namer.invariant.goes_on

pub returns-clause-lower : goal.returns-clause-lower
returns-clause-lower c = c.loop-namer.invariant.lower
