use Rattle.std.proofs.Common.{◌≡◌, ◌==◌, true, sym, ap, ◌∙◌, arith}
use Rattle.tuple_state.specs.State.{keep_any}
use Rattle.tuple_state.proofs.Linking.{default_free}
use Rattle.tuple_state.proofs.at.At.stands.Goals as goal

pub index-requires : goal.index-requires
index-requires g c =
    let keeps : keep_any c.args.self.now.tables.now.shapes ≡ true = sym c.keeps.ensures ∙ c.if-keeps.true in
    let long = (c.args.self.now.counted keeps).causes.0 in
    omega (arith, long, c.requires)

pub returns-then-keeps : goal.returns-then-keeps
returns-then-keeps g c it at =
    let keeps : keep_any c.args.self.now.tables.now.shapes ≡ true = sym c.keeps.ensures ∙ c.if-keeps.true in
    let known = (c.args.self.now.counted keeps).causes in
    let long = known.0 in
    ap (λ n. n == 0) (c.index.ensures ∙ default_free c.args.self.now.known.causes.items c.args.place c.index.result.now 0 (omega (arith, long, c.requires))) ∙ known.1 c.args.place it at
