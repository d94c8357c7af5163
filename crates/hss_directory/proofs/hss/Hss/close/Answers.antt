use Rattle.std.proofs.Common.{◌≡◌, ◌<◌, ℕ, List, refl, sym, subst, IsTrue, Some}
use Rattle.std.specs.Prelude.{IfSome, string_bytes}
use Rattle.bec_bytes.specs.Causes.{Rose}
use Rattle.bec_disk.specs.declared.part.Part.TheVariants.{Key, Used}
use Rattle.bec_disk.specs.Shelf.{out}
use Rattle.bec_disk.specs.Slot.{slot}
use Rattle.key_directory.specs.Keys.{PutsKey}
use Rattle.key_directory.specs.Parts.{part_in}
use Rattle.hss_directory.specs.Calls.{EndsHss, PutsHss, hss_of}
use Rattle.hss_directory.specs.Places.{Holds}
use Rattle.hss_directory.specs.Values.{HssState, IsSound}
use Rattle.hss_directory.proofs.Held.{close_ends, close_top, lower_held, rose_later}
use Rattle.hss_directory.proofs.hss.Hss.close.Goals as goal

pub put_lower-requires : goal.put_lower-requires
put_lower-requires g c tells =
    let before = g.H.Shelf.state c.args.shelf.now in
    let hss : HssState = hss_of (string_bytes c.self.inside.dir) c.self.inside.top c.self.inside.lower in
    let held = subst (λ (h : HssState). Holds before h) (sym c.self.view_is) (c.requires.held tells) in
    lower_held before hss.dir hss.lower held.lower

pub put_key-requires-clause-key_of : goal.put_key-requires-clause-key_of
put_key-requires-clause-key_of g c tells =
    let before = g.H.Shelf.state c.args.shelf.now in
    let mid = g.H.Shelf.state c.put_lower.new.shelf in
    let hss : HssState = hss_of (string_bytes c.self.inside.dir) c.self.inside.top c.self.inside.lower in
    let held : IsTrue before.tells → Holds before hss = λ t. subst (λ (h : HssState). Holds before h) (sym c.self.view_is) (c.requires.held t) in
    let sound : IsSound hss = subst (λ (h : HssState). IsSound h) (sym c.self.view_is) c.requires.sound in
    let h = (close_top before mid hss held sound c.put_lower.ensures.puts tells).0 in
    subst (λ (d : List ℕ). (hss.top.parts.key.slot ≡ Some (slot d Key)) × (part_in mid d Key ≡ out)) (sym c.as_str.ensures.value) (h.key_slot, h.key_out)

pub put_key-requires-clause-used_of : goal.put_key-requires-clause-used_of
put_key-requires-clause-used_of g c tells =
    let before = g.H.Shelf.state c.args.shelf.now in
    let mid = g.H.Shelf.state c.put_lower.new.shelf in
    let hss : HssState = hss_of (string_bytes c.self.inside.dir) c.self.inside.top c.self.inside.lower in
    let held : IsTrue before.tells → Holds before hss = λ t. subst (λ (h : HssState). Holds before h) (sym c.self.view_is) (c.requires.held t) in
    let sound : IsSound hss = subst (λ (h : HssState). IsSound h) (sym c.self.view_is) c.requires.sound in
    let h = (close_top before mid hss held sound c.put_lower.ensures.puts tells).0 in
    subst (λ (d : List ℕ). (hss.top.parts.used.slot ≡ Some (slot d Used)) × (part_in mid d Used ≡ out)) (sym c.as_str.ensures.value) (h.used_slot, h.used_out)

pub returns-clause-puts : goal.returns-clause-puts
returns-clause-puts g c =
    let before = g.H.Shelf.state c.args.shelf.now in
    let mid = g.H.Shelf.state c.put_lower.new.shelf in
    let after = g.H.Shelf.state c.put_key.new.shelf in
    subst (λ (h : HssState). PutsHss before h after) c.self.view_is
    (record {
      mid = mid;
      lower = c.put_lower.ensures.puts;
      top = subst (λ (d : List ℕ). PutsKey mid d c.self.inside.top.parts after) c.as_str.ensures.value c.put_key.ensures.puts;
    })

pub returns-clause-ends : goal.returns-clause-ends
returns-clause-ends g c =
    let before = g.H.Shelf.state c.args.shelf.now in
    let mid = g.H.Shelf.state c.put_lower.new.shelf in
    let after = g.H.Shelf.state c.put_key.new.shelf in
    let hss : HssState = hss_of (string_bytes c.self.inside.dir) c.self.inside.top c.self.inside.lower in
    let held : IsTrue before.tells → Holds before hss = λ t. subst (λ (h : HssState). Holds before h) (sym c.self.view_is) (c.requires.held t) in
    let sound : IsSound hss = subst (λ (h : HssState). IsSound h) (sym c.self.view_is) c.requires.sound in
    subst (λ (h : HssState). EndsHss before h.dir after) c.self.view_is
    (close_ends before mid after hss held sound c.put_lower.ensures.puts (subst (λ (d : List ℕ). PutsKey mid d hss.top.parts after) c.as_str.ensures.value c.put_key.ensures.puts))

pub returns-clause-lower_faulted : goal.returns-clause-lower_faulted
returns-clause-lower_faulted g c =
    let first = g.H.Counted.faults c.args.shelf.now in
    let last = g.H.Counted.faults c.put_key.new.shelf in
    subst (λ (h : HssState). IfSome h.lower (λ l. 0 < l.key.parts.used_faults → Rose first last)) c.self.view_is
    (rose_later c.self.inside.lower first (g.H.Counted.faults c.put_lower.new.shelf) last c.put_lower.ensures.faulted c.put_key.ensures.later)
