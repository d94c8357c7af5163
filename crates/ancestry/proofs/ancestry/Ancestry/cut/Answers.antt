use Rattle.std.proofs.Common.{◌≡◌, ◌≤◌, ◌<◌, ℕ, true, length, subst, List, take, sym, ◌∙◌, ap}
use Rattle.ancestry.specs.Named.{is_noted}
use Rattle.ancestry.proofs.Keeping.{kept_front}
use Rattle.ancestry.proofs.Marking.{put_back}
use Rattle.ancestry.proofs.ancestry.Ancestry.cut.Goals as goal

pub invariant_of-self : goal.invariant_of-self
invariant_of-self c =
    let members = c.self.inside.members.items in
    let namers = c.self.inside.namers.items in
    let held : c.args.len ≤ length members = subst (λ (g : List (List ℕ)). c.args.len ≤ length g) (sym c.self.view_is) c.requires in
    let same : length c.unname.new.namers ≡ length namers = c.unname.auto.namers ∙ ap (length {A = List ℕ}) c.as_mut_slice.ensures.value in
    let stay : (p q : ℕ) → q < c.args.len → is_noted namers p q ≡ true → is_noted c.unname.new.namers p q ≡ true = rw c.as_mut_slice.ensures.value at c.unname.ensures in
    let left : c.truncate.new.self.items ≡ take c.args.len c.unname.new.namers = c.truncate.ensures.items ∙ ap (take c.args.len) (put_back c.self.inside.namers.len c.unname.new.namers namers (c.unname.auto.namers ∙ c.as_mut_slice.ensures.len)) in
    rw (c.truncate-3.ensures.items, c.truncate-2.ensures.items, left)
    (kept_front members c.self.inside.clocks.items namers c.unname.new.namers c.self.inside.sizes c.uncount.new.sizes c.args.len c.self.invariant held (rw c.as_slice.ensures.value at c.uncount.ensures) same stay)
