use Rattle.std.proofs.Common.{◌≡◌, ◌+◌, ◌-◌, ◌++◌, ℕ, List, Option, None, length, length-append, replicate, vec_len, ap, sym, subst, ◌∙◌, arith}
use Rattle.std.proofs.lemmas.List.{length-replicate, take_all}
use Rattle.tuple_state.specs.declared.links.Link.{Link}
use Rattle.tuple_state.specs.Links.{Linked, are_inside}
use Rattle.tuple_state.proofs.Linking.{Threaded, inside_added, threaded_more}
use Rattle.tuple_state.proofs.links.Links.grow.Goals as goal

-- the places, and the links, with those that are added
newest_is : (c : goal.After-as_slice) → c.as_mut_slice.result.now ≡ c.self.inside.newest.items ++ replicate (c.len-size.result + c.args.places - vec_len c.reserve.new.self) None
newest_is c =
    let more = rw (c.unwrap.ensures, c.reserve.ensures.items) at c.resize.ensures.items in
    c.as_mut_slice.ensures.value ∙ more
    ∙ ap (λ l. l ++ replicate (c.len-size.result + c.args.places - vec_len c.reserve.new.self) None) (take_all (c.len-size.result + c.args.places) c.self.inside.newest.items (omega (arith, c.len-size.ensures)))

older_is : (c : goal.After-as_slice) → c.as_mut_slice-2.result.now ≡ c.self.inside.older.items ++ replicate (c.len-first.result + length c.args.links.now - vec_len c.reserve-2.new.self) None
older_is c =
    let more = rw (c.unwrap-2.ensures, c.reserve-2.ensures.items) at c.resize-2.ensures.items in
    c.as_mut_slice-2.ensures.value ∙ more
    ∙ ap (λ l. l ++ replicate (c.len-first.result + length c.args.links.now - vec_len c.reserve-2.new.self) None) (take_all (c.len-first.result + length c.args.links.now) c.self.inside.older.items (omega (arith, c.len-first.ensures, c.self.invariant.each)))

links_is : (c : goal.After-as_slice) → c.as_slice.result.now ≡ c.self.inside.links.items ++ c.args.links.now
links_is c = c.as_slice.ensures.value ∙ c.in_ok-extend_from_slice.ensures.items

pub thread-requires-clause-inside : goal.thread-requires-clause-inside
thread-requires-clause-inside c =
    let size = ap (λ (d : Linked). d.size) c.self.view_is in
    let len : length c.as_mut_slice.result.now ≡ length c.self.inside.newest.items + c.args.places =
    (let e = ap length (newest_is c) in let a = length-append c.self.inside.newest.items (replicate (c.len-size.result + c.args.places - vec_len c.reserve.new.self) None) in
    let r = length-replicate {A = Option ℕ} (c.len-size.result + c.args.places - vec_len c.reserve.new.self) None in let k = ap length c.reserve.ensures.items in omega (arith, e, a, r, k, c.len-size.ensures)) in
    (λ i. are_inside (len i) (links_is c i))
    ∙ inside_added (length c.self.inside.newest.items) c.args.places c.self.inside.links.items c.args.links.now c.self.invariant.inside
    (ap (λ n. are_inside (n + c.args.places) c.args.links.now) size ∙ c.requires.inside)

threaded : (c : goal.After-as_slice) → Threaded c.as_mut_slice.result.now c.as_mut_slice-2.result.now c.as_slice.result.now c.len-first.result
threaded c =
    let first : length c.self.inside.links.items ≡ c.len-first.result = omega (arith, c.len-first.ensures) in
    subst (λ (n : ℕ). Threaded c.as_mut_slice.result.now c.as_mut_slice-2.result.now c.as_slice.result.now n) first
    (subst (λ (l : List Link). Threaded c.as_mut_slice.result.now c.as_mut_slice-2.result.now l (length c.self.inside.links.items)) (sym (links_is c))
    (subst (λ (l : List (Option ℕ)). Threaded c.as_mut_slice.result.now l (c.self.inside.links.items ++ c.args.links.now) (length c.self.inside.links.items)) (sym (older_is c))
    (subst (λ (l : List (Option ℕ)). Threaded l (c.self.inside.older.items ++ replicate (c.len-first.result + length c.args.links.now - vec_len c.reserve-2.new.self) None) (c.self.inside.links.items ++ c.args.links.now) (length c.self.inside.links.items)) (sym (newest_is c))
    (threaded_more c.self.inside.newest.items c.self.inside.older.items c.self.inside.links.items c.args.links.now _ _ c.self.invariant))))

pub thread-requires-clause-last : goal.thread-requires-clause-last
thread-requires-clause-last c = (threaded c).last

pub thread-requires-clause-before : goal.thread-requires-clause-before
thread-requires-clause-before c = (threaded c).before
