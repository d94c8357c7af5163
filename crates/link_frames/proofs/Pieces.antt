-- What is read and heard, piece after piece.
use Rattle.std.proofs.Common.{◌≡◌, true, inl, inr, ℕ, List, [], ◌∷◌, ◌++◌, length-append, refl, sym, ap, subst, ◌∙◌, arith, append_assoc, append-nil, Option}
use Rattle.std.specs.Io.KnownBytes.{Consumes}
use Rattle.std.proofs.KnownBytes.{Consumes-nil, Consumes-trans}
use Rattle.update_model.specs.Rule.{RuleData}
use Rattle.session_rules.specs.State.{FrameData, NoFrame}
use Rattle.session_rules.specs.Steps.{is_empty}
use Rattle.sync_frames.specs.declared.frame.Frame.{Frame}
use Rattle.sync_frames.specs.Fed.{FedData, Feeds}
use Rattle.sync_frames.specs.Stream.{AreSpelled, IsBroken}
use Rattle.sync_session.specs.Carrying.{Arrives}
use Rattle.link_frames.specs.Listening.{IsFed, Listens, ReadsPiece, is_none}
use Rattle.link_frames.specs.declared.hearing.Heard.{Heard}
use Rattle.link_frames.specs.declared.hearing.Heard.TheVariants.{Frames, NoFrame as is_no_frame, End, Broken, Memory}
use Rattle.link_frames.specs.Hearing.{AllArrive, Hears, Reads, place_of, said_by}

pub spelled_append : (fs gs : List Frame) (a b : List ℕ) → AreSpelled fs a → AreSpelled gs b → AreSpelled (fs ++ gs) (a ++ b)
spelled_append [] gs a b p q = subst (λ (l : List ℕ). AreSpelled gs (l ++ b)) (sym p) q
spelled_append (f ∷ fs) gs a b p q = (p.0, p.1 ++ b, p.2, spelled_append fs gs p.1 b p.3 q, ap (λ (l : List ℕ). l ++ b) p.4 ∙ append_assoc p.0 p.1 b)

-- the bytes of the first of these frames, and of the others
pub spelled_apart : (fs gs : List Frame) (bytes : List ℕ) → AreSpelled (fs ++ gs) bytes → (a : List ℕ) × (b : List ℕ) × AreSpelled fs a × AreSpelled gs b × (bytes ≡ a ++ b)
spelled_apart [] gs bytes p = ([], bytes, refl, p, refl)
spelled_apart (f ∷ fs) gs bytes p =
    let rest = spelled_apart fs gs p.1 p.3 in
    (p.0 ++ rest.0, rest.1, (p.0, rest.0, p.2, rest.2, refl), rest.3, p.4 ∙ ap (λ (l : List ℕ). p.0 ++ l) rest.4 ∙ sym (append_assoc p.0 rest.0 rest.1))

pub arrive_append : (rule : RuleData) (fs gs : List Frame) (heard more : List FrameData) → AllArrive rule fs heard → AllArrive rule gs more → AllArrive rule (fs ++ gs) (heard ++ more)
arrive_append rule [] gs heard more p q = subst (λ (l : List FrameData). AllArrive rule gs (l ++ more)) (sym p) q
arrive_append rule (f ∷ fs) gs heard more p q = (p.0, p.1 ++ more, ap (λ (l : List FrameData). l ++ more) p.2, p.3, arrive_append rule fs gs p.1 more p.4 q)

-- one frame arrives
pub arrive_one : (rule : RuleData) (frame : Frame) (one : FrameData) → Arrives rule (said_by frame) one → AllArrive rule (frame ∷ []) (one ∷ [])
arrive_one rule frame one a = (one, [], refl, a, refl)

-- nothing was read
pub reads_nothing : (rule : RuleData) (left : Option (List ℕ)) → Reads rule left left (record { place = 0; rest = [] }) []
reads_nothing rule left = record { front = []; frames = []; took = Consumes-nil left; each = refl; arrive = refl; place = refl }

module _ (rule : RuleData) (before left : Option (List ℕ)) (fed : FedData) (heard : List FrameData) (r : Reads rule before left fed heard) where
  module _ (after : Option (List ℕ)) (new : FedData) (piece : List ℕ) (frames : List Frame) (feeds : Feeds fed new piece frames) (took : Consumes left after piece) where
    all_took : Consumes before after ((r.front ++ fed.rest) ++ piece)
    all_took = Consumes-trans before left after (r.front ++ fed.rest) piece r.took took

    all_is : (r.front ++ fed.rest) ++ piece ≡ (r.front ++ feeds.splits.front) ++ new.rest
    all_is = append_assoc r.front fed.rest piece ∙ ap (λ (l : List ℕ). r.front ++ l) feeds.splits.whole ∙ sym (append_assoc r.front feeds.splits.front new.rest)

    place_is : new.place ≡ place_of (r.front ++ feeds.splits.front)
    place_is = let n = length-append r.front feeds.splits.front in let a = r.place in let b = feeds.place in omega arith

    -- a piece was read, and its frames were heard
    pub reads_on : (more : List FrameData) → AllArrive rule frames more → Reads rule before after new (heard ++ more)
    reads_on more arrive = record {
      front = r.front ++ feeds.splits.front;
      frames = r.frames ++ frames;
      took = subst (Consumes before after) all_is all_took;
      each = spelled_append r.frames frames r.front feeds.splits.front r.each feeds.splits.each;
      arrive = arrive_append rule r.frames frames heard more r.arrive arrive;
      place = place_is;
    }

    -- a piece was read, and the first of its frames were heard
    pub hears_first : (first others : List Frame) (more : List FrameData) → frames ≡ first ++ others → AllArrive rule first more
        → (read : List ℕ) × (later : List ℕ) × Consumes before after read × Hears rule read later (heard ++ more)
    hears_first first others more are arrive =
        let apart = spelled_apart first others feeds.splits.front (subst (λ (l : List Frame). AreSpelled l feeds.splits.front) are feeds.splits.each) in (
          (r.front ++ fed.rest) ++ piece,
          apart.1 ++ new.rest,
          all_took,
          record {
            front = r.front ++ apart.0;
            frames = r.frames ++ first;
            arrived = heard ++ more;
            whole = append_assoc r.front fed.rest piece ∙ ap (λ (l : List ℕ). r.front ++ l) (feeds.splits.whole ∙ ap (λ (l : List ℕ). l ++ new.rest) apart.4 ∙ append_assoc apart.0 apart.1 new.rest)
                ∙ sym (append_assoc r.front apart.0 (apart.1 ++ new.rest));
            each = spelled_append r.frames first r.front apart.0 r.each apart.2;
            arrive = arrive_append rule r.frames first heard more r.arrive arrive;
            are = inl refl;
          },
        )

  -- no more was heard of what was read
  pub hears_so_far : (after : Option (List ℕ)) (piece : List ℕ) → Consumes left after piece → (read : List ℕ) × (later : List ℕ) × Consumes before after read × Hears rule read later heard
  hears_so_far after piece took = (
    (r.front ++ fed.rest) ++ piece,
    fed.rest ++ piece,
    Consumes-trans before left after (r.front ++ fed.rest) piece r.took took,
    record { front = r.front; frames = r.frames; arrived = heard; whole = append_assoc r.front fed.rest piece; each = r.each; arrive = r.arrive; are = inl refl },
  )

  -- what was read is all, and the rest of it is this
  pub hears_all : Hears rule (r.front ++ fed.rest) fed.rest heard
  hears_all = record { front = r.front; frames = r.frames; arrived = heard; whole = refl; each = r.each; arrive = r.arrive; are = inl refl }

  -- what follows is no frame
  pub hears_none : (place : ℕ) → place ≡ fed.place → IsBroken fed.rest → Hears rule (r.front ++ fed.rest) fed.rest (heard ++ NoFrame place ∷ [])
  hears_none place is broken = record {
    front = r.front;
    frames = r.frames;
    arrived = heard;
    whole = refl;
    each = r.each;
    arrive = r.arrive;
    are = inr (ap (λ (n : ℕ). heard ++ NoFrame n ∷ []) (is ∙ r.place), broken);
  }

-- ---- what a call heard

same_rest : (old mid : FedData) → Feeds old mid [] [] → mid.rest ≡ old.rest
same_rest old mid feeds = sym (ap (λ (l : List ℕ). l ++ mid.rest) feeds.splits.each) ∙ sym feeds.splits.whole ∙ append-nil old.rest

no_items : (frames : List Frame) → is_empty frames ≡ true → frames ≡ []
no_items [] is = refl
no_items (f ∷ fs) is = absurd cc

-- no frame was whole
pub fed_nothing : (old mid : FedData) (heard : Heard) → is_none heard ≡ true → IsFed old mid [] heard → Feeds old mid [] []
fed_nothing old mid (Frames frames) is fed = subst (λ (l : List Frame). Feeds old mid [] l) (no_items frames.items is) fed
fed_nothing old mid (is_no_frame place) is fed = absurd cc
fed_nothing old mid End is fed = absurd fed
fed_nothing old mid Broken is fed = absurd fed
fed_nothing old mid Memory is fed = absurd cc

-- nothing was whole before, and this is what a piece gave
listens_next : (before left : Option (List ℕ)) (old mid new : FedData) (faults now : ℕ) (heard : Heard) → Feeds old mid [] [] → ReadsPiece before left mid new faults now heard → Listens before left old new faults now heard
listens_next before left old mid new faults now (Frames frames) first r = inr (mid, r.0, first, r.1, r.2)
listens_next before left old mid new faults now (is_no_frame place) first r = absurd (first.fine (subst IsBroken (same_rest old mid first) r))
listens_next before left old mid new faults now End first r = (subst (λ (f : FedData). Feeds old f [] []) (sym r.2) first, r.0, r.1)
listens_next before left old mid new faults now Broken first r = r
listens_next before left old mid new faults now Memory first r = r

pub listens_then : (before left : Option (List ℕ)) (old mid new : FedData) (faults now : ℕ) (early heard : Heard) → is_none early ≡ true → IsFed old mid [] early → ReadsPiece before left mid new faults now heard
    → Listens before left old new faults now heard
listens_then before left old mid new faults now early heard none fed r = listens_next before left old mid new faults now heard (fed_nothing old mid early none fed) r
