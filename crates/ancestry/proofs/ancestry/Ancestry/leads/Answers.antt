use Rattle.std.proofs.Common.{◌<◌, ℕ, List, length, sym, subst, arith}
use Rattle.std.proofs.lemmas.Bool.{ne_eqb}
use Rattle.ancestry.proofs.Merging.{compared_read}
use Rattle.ancestry.proofs.ancestry.Ancestry.leads.Goals as goal

pub returns-then-chain-lt-CHAINS-clause-told : goal.returns-then-chain-lt-CHAINS-clause-told
returns-then-chain-lt-CHAINS-clause-told c =
    let apart = ne_eqb c.args.s c.args.b c.if-s-b.false in
    rw (apart, ← c.self.view_is)
    (compared_read c.self.inside.members.items c.self.inside.clocks.items c.args.s c.args.b c.index-clock.result.now c.index.result.now c.self.invariant.lower c.self.invariant.clocked
    (subst (λ (g : List (List ℕ)). c.args.s < length g) (sym c.self.view_is) (omega (arith, c.requires.below, c.requires.held))) (subst (λ (g : List (List ℕ)). c.args.b < length g) (sym c.self.view_is) c.requires.held)
    c.index-clock.ensures c.index.ensures c.if-chain-lt-CHAINS.true)
