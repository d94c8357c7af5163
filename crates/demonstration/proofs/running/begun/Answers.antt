use Rattle.std.proofs.Common.{◌≡◌, ◌+◌, ◌≤◌, ◌∷◌, [], ◌++◌, List, ℕ, All, length, sym, ap, subst, ◌∙◌, arith, length-append}
use Rattle.demonstration.specs.Demos.{drawn_from}
use Rattle.demonstration.specs.Sites.{IsFresh}
use Rattle.key_index.specs.Creating.{after_draw}
use Rattle.numbered_words.specs.Numbered.{word_steps}
use Rattle.rand_core.specs.Steps.{stream_of}
use Rattle.demonstration.proofs.Beginning.{all_fresh, draws_more, one_fresh}
use Rattle.demonstration.proofs.running.begun.Goals as goal

pub authors-preserved : goal.authors-preserved
authors-preserved c =
    let authors = c.authors.authors.items in
    let author = c.in_ok-author.author in
    let created = c.in_ok-author.ensures in
    let first = stream_of word_steps c.args.words.now in
    let text = c.declared_text-text.result.now in
    let items : c.push_reserved.new.self.items ≡ authors ++ author ∷ [] = c.push_reserved.ensures.items in
    record {
      many = ap length items ∙ length-append authors (author ∷ []) ∙ ap (λ n. n + 1) c.authors.invariant.many;
      drawn = created.drawn ∙ ap after_draw c.authors.invariant.drawn ∙ sym (draws_more c.authors.number first);
      fresh = subst (All (IsFresh text (drawn_from first))) (sym items)
          (one_fresh text first (stream_of word_steps c.authors.words) c.authors.number authors author (omega arith) c.authors.invariant.drawn c.authors.invariant.fresh created.key created.taken created.empty created.unused created.nothing);
      room = subst (λ n. 4 ≤ n) (sym c.push_reserved.ensures.capacity) c.authors.invariant.room;
    }

pub returns-clause-course : goal.returns-clause-course
returns-clause-course c =
    let four : length c.authors.authors.items ≡ 4 = omega (arith, c.authors.invariant.many) in
    let keys = drawn_from (stream_of word_steps c.args.words.now) in
    all_fresh keys c.authors.authors.items c.one_schema.ensures c.text_declares_tables.ensures.tables c.text_declares_tables.ensures.authors four
    (subst (λ (t : List ℕ). All (IsFresh t keys) c.authors.authors.items) c.declared_text-text.ensures c.authors.invariant.fresh)
