-- The authors of a demonstration before they make updates.
use Rattle.std.proofs.Common.{◌≡◌, ℕ, zero, suc, ◌+◌, ◌<◌, List, [], ◌∷◌, ◌++◌, All, Contains, Bool, cond, false, not, None, slice_index_or, length, length-append, map, replicate, refl, sym, ap, subst, ◌∙◌, arith}
use Rattle.std.specs.Prelude.{count_by}
use Rattle.std.proofs.lemmas.List.Elements.{All-head, All-nil, All-push, All-weaker}
use Rattle.std.proofs.lemmas.List.Folds.{sum_by-replicate}
use Rattle.confluence_test.specs.Taking.{TakesSchema}
use Rattle.demonstration.specs.declared.author.Author.{Author}
use Rattle.demonstration.specs.Demos.{IsBy, drawn_from}
use Rattle.demonstration.specs.Sites.{AreMakers, IsCourse, IsFresh, IsSite, draws, members_at, steps}
use Rattle.demonstration.proofs.Sites.{new_site}
use Rattle.demonstration.proofs.Steps.{field_at, members_in}
use Rattle.demonstration_course.specs.Courses.{AreInStep, HoldsOldest}
use Rattle.demonstration_laws.specs.Chains.{IsChain}
use Rattle.demonstration_laws.specs.Tables.{demo_tables, demo_text}
use Rattle.key_index.specs.Creating.{after_draw, drawn_key}
use Rattle.lm_ots.specs.declared.ots_type.OtsType.TheVariants.{W4}
use Rattle.lms_tree.specs.SecretKey.{SecretData}
use Rattle.lms_tree.specs.declared.lms_type.LmsType.TheVariants.{H10}
use Rattle.rand_core.specs.Stream.{Stream}
use Rattle.row_check.specs.Checksum.{is_luhn}
use Rattle.schema.specs.Data.{Meaning, SchemaData}
use Rattle.schema_text.specs.Schemas.{Declares}
use Rattle.update_codec.specs.Parts.{entry_of}
use Rattle.update_model.specs.Graph.{Follows}

-- the key that is drawn at this place, from 0, is among the four
drawn_at : (random : Stream) (n : ℕ) → n < 4 → Contains (drawn_from random) (drawn_key H10 W4 (draws n random))
drawn_at random zero low = (0, omega arith, refl)
drawn_at random (suc zero) low = (1, omega arith, refl)
drawn_at random (suc (suc zero)) low = (2, omega arith, refl)
drawn_at random (suc (suc (suc zero))) low = (3, omega arith, refl)
drawn_at random (suc (suc (suc (suc n)))) low = absurd (omega arith)

pub draws_more : (n : ℕ) (random : Stream) → draws (n + 1) random ≡ after_draw (draws n random)
draws_more n random = let more : n + 1 ≡ suc n = omega arith in ap (λ (k : ℕ). draws k random) more

-- one more author was created
pub one_fresh : (text : List ℕ) (first random : Stream) (n : ℕ) (authors : List Author) (author : Author) → n < 4 → random ≡ draws n first → All (IsFresh text (drawn_from first)) authors
    → author.key.secret ≡ drawn_key H10 W4 random → TakesSchema is_luhn text author.store.history.schema → author.store.history.members ≡ [] → author.key.taken ≡ replicate 1024 false → author.last ≡ None
    → All (IsFresh text (drawn_from first)) (authors ++ author ∷ [])
one_fresh text first random n authors author low at before key taken empty unused nothing = All-push (IsFresh text (drawn_from first)) authors author before (record {
  key = subst (Contains (drawn_from first)) (sym (key ∙ ap (λ (r : Stream). drawn_key H10 W4 r) at)) (drawn_at first n low);
  taken = taken;
  empty = empty;
  unused = unused;
  nothing = nothing;
})

-- ---- four of them

none_in : {X : Type 0} (x : X) → Contains [] x → ⊥
none_in x c = absurd (let low = c.1 in omega arith)

none_around : (newer older : List (List ℕ)) (m : List ℕ) → [] ≡ newer ++ m ∷ older → ⊥
none_around newer older m is = let whole = ap length is in let parts = length-append newer (m ∷ older) in absurd (omega arith)

all_unused : (n : ℕ) → count_by not (replicate n false) ≡ n
all_unused n = let e = sum_by-replicate (λ (x : Bool). cond (not x) 1 0) n false in omega (arith, e)

-- so far no one has made an update
abbrev no_chains : ℕ → List (List ℕ)
no_chains b = []

module _ (text : List ℕ) (keys : List SecretData) (d : Author) (authors : List Author) (four : length authors ≡ 4) (fresh : All (IsFresh text keys) authors) where
  fresh_at : (x : ℕ) → x < 4 → IsFresh text keys (slice_index_or authors x d)
  fresh_at x low = fresh x d (omega (arith, four))

  none_held : (x : ℕ) → x < 4 → members_at authors x ≡ []
  none_held x low = field_at members_in [] authors x d (omega (arith, four)) ∙ (fresh_at x low).empty

  hold_none : (x : ℕ) → x < 4 → HoldsOldest no_chains x (members_at authors x)
  hold_none x low = record {
    held = no_chains;
    oldest = λ b below. ([], refl);
    own = refl;
    each = λ m c. absurd (none_in m (subst (λ (l : List (List ℕ)). Contains l m) (none_held x low) c));
    all = λ m among. absurd (none_in m among.2);
    closed = subst (λ (l : List (List ℕ)). Follows [] (map entry_of l)) (sym (none_held x low)) tt;
  }

  in_step_none : AreInStep [] 0 no_chains (members_at authors)
  unfolding IsChain
  in_step_none = record {
    of = λ b low m c. c;
    long = λ b low. omega arith;
    chain = λ b low. tt;
    holds = hold_none;
    after = λ b low newer older m is. absurd (none_around newer older m is);
  }

  makers_none : AreMakers [] (steps 0 0 0 0) authors
  makers_none = record {
    chains = no_chains;
    in_step = in_step_none;
    since = record {
      unnamed = λ k from below. absurd (omega arith);
      alone = λ k from below. absurd (omega arith);
    };
    reached = λ b below. absurd (omega arith);
    last = λ x low. field_at (λ (a : Author). a.last) None authors x d (omega (arith, four)) ∙ (fresh_at x low).nothing;
    left = λ x low. (let is = ap (count_by not) (field_at (λ (a : Author). a.key.taken) [] authors x d (omega (arith, four)) ∙ (fresh_at x low).unused) in let all = all_unused 1024 in omega (arith, is, all));
  }

-- four authors of one text
pub all_fresh : (keys : List SecretData) (authors : List Author)
    → ((relation : Meaning) (text : List ℕ) (schema other : SchemaData) → Declares relation text schema → Declares relation text other → schema ≡ other)
    → ((schema : SchemaData) → Declares is_luhn demo_text schema → schema.tables ≡ demo_tables) → ((schema : SchemaData) → Declares is_luhn demo_text schema → schema.rule.authors ≡ [])
    → length authors ≡ 4 → All (IsFresh demo_text keys) authors → IsCourse keys (steps 0 0 0 0) authors
all_fresh keys [] one tables anyone four fresh = absurd (omega arith)
all_fresh keys (a ∷ authors) one tables anyone four fresh = record {
  schema = a.store.history.schema;
  tables = tables a.store.history.schema first.taken.declares;
  anyone = anyone a.store.history.schema first.taken.declares;
  made = [];
  few = omega arith;
  by_keys = All-nil (IsBy keys);
  sites = All-weaker (IsFresh demo_text keys) (IsSite keys a.store.history.schema [])
      (λ author f. new_site keys a.store.history.schema author f.key (one is_luhn demo_text author.store.history.schema a.store.history.schema f.taken.declares first.taken.declares) f.empty) (a ∷ authors) fresh;
  makers = λ small apart. makers_none demo_text keys a (a ∷ authors) four fresh;
}
  where
    first : IsFresh demo_text keys a
    first = All-head (IsFresh demo_text keys) a authors fresh
