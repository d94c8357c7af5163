-- What one end handed out is carried to the other.
use Rattle.std.proofs.Common.{◌≡◌, ◌≢◌, ◌⊎◌, inl, inr, ℕ, Bool, true, false, List, [], ◌∷◌, ◌++◌, map, Option, Some, None, option_map, Result, Ok, Err, IfOk, OnOk, refl, sym, ap, subst, ◌∙◌, append_assoc}
use Rattle.std.specs.declared.alloc.AllocError.{AllocError}
use Rattle.std.proofs.lemmas.List.{map-append}
use Rattle.update_check.specs.Signed.{IsChecked, IsUnder, SpellsSigned}
use Rattle.update_check.specs.declared.check_error.CheckFault.TheVariants.{WrongDatabase, AuthorNotListed}
use Rattle.update_codec.specs.Parts.{body_of, entry_of, update_of}
use Rattle.update_model.specs.Batch.{Limits}
use Rattle.update_model.specs.Entry.{Entry}
use Rattle.update_model.specs.Rule.{RuleData}
use Rattle.session_rules.specs.Pair.{frames_of, hello_frames, turn_frames}
use Rattle.session_rules.specs.declared.role.Role.TheVariants.{Initiator}
use Rattle.session_rules.specs.declared.end.End.{End}
use Rattle.session_rules.specs.State.{HelloData, FrameData, Hello, Item, BadItem, Turn, TurnData, SessionData, OutData}
use Rattle.session_rules.specs.Steps.{silent, Steps}
use Rattle.sync_session.specs.Carrying.{before_turn, Arrives, AreHanded, all_heard, one_ends, Hears, IsCarried, to_turn, to_end, IsHanded, IsWell, Stops}
use Rattle.sync_session.specs.Kept.{frame_of, out_of, seen, BelongsTo, Kept, StepsBy, StepsTo}
use Rattle.sync_session.specs.declared.checked_frame.CheckedFrame.{CheckedFrame}
use Rattle.sync_session.specs.declared.out.Out.{Out}
use Rattle.sync_session.proofs.Handing.{hears_join, same_refl}
use Rattle.sync_session.proofs.Quiet.{heard, stops, Same, quiet_hello}

-- ---- one call of `step`

steps_fine : (failed : Bool) (limits : Limits) (k next : Kept) (before after : List (List ℕ)) (frame : CheckedFrame) (out : Out) → failed ≡ false → StepsBy failed limits k before frame next out after
    → Steps limits (seen before k) (map entry_of before) (frame_of frame) (seen after next) (out_of (map entry_of after) out) (map entry_of after)
steps_fine true limits k next before after frame out never s = absurd cc
steps_fine false limits k next before after frame out fine s = s

-- the end is handed the frame
pub step_handed : (limits : Limits) (rule : RuleData) (k next : Kept) (before after : List (List ℕ)) (frame : CheckedFrame) (sent : FrameData) (r : Result Out AllocError) → IsWell limits rule k before → Arrives rule sent (frame_of frame)
    → IfOk r (λ out. StepsTo limits k before frame next out after)
    → IfOk r (λ out. IsHanded limits rule (seen before k) (map entry_of before) (Some sent) (seen after next) (out_of (map entry_of after) out) (map entry_of after))
step_handed limits rule k next before after frame sent (Ok out) well arrives s = (frame_of frame, arrives, steps_fine k.failed limits k next before after frame out well.fine s.0)
step_handed limits rule k next before after frame sent (Err e) well arrives s = tt

-- and is well again
pub step_well : (limits : Limits) (rule : RuleData) (k next : Kept) (before after : List (List ℕ)) (frame : CheckedFrame) (r : Result Out AllocError) → IsWell limits rule k before → IfOk r (λ out. StepsTo limits k before frame next out after)
    → BelongsTo limits rule next after → OnOk r (IsWell limits rule next after)
step_well limits rule k next before after frame (Ok out) well s belongs = let fine : next.failed ≡ false = s.1 ∙ well.fine in record { fine = fine; belongs = belongs fine }
step_well limits rule k next before after frame (Err e) well s belongs = tt

-- ---- the Hello

-- an end hears a Hello, or ends
pub data HelloHeard (limits : Limits) (rule : RuleData) (s : SessionData) (list : List Entry) (hello : Option HelloData) (next : SessionData) (out : OutData) : Type 0 where
  hears : out ≡ silent → Hears limits rule s list (hello_frames hello) next → Same s next → HelloHeard limits rule s list hello next out
  ends : (h : HelloData) (ending : End) → hello ≡ Some h → Stops ending next out → HelloHeard limits rule s list hello next out

pub hello_heard : (limits : Limits) (rule : RuleData) (s : SessionData) (list : List Entry) (hello : Option HelloData) (next : SessionData) (out : OutData) (after : List Entry) → (hello ≡ None) ⊎ (s.role ≡ Initiator) → s.ended ≡ None
    → IsHanded limits rule s list (option_map Hello hello) next out after → (after ≡ list) × HelloHeard limits rule s list hello next out
hello_heard limits rule s list None next out after either running h = (h.2, hears h.1 h.0 (subst (Same s) (sym h.0) (same_refl s running)))
hello_heard limits rule s list (Some hello) next out after (inl none) running h = absurd cc
hello_heard limits rule s list (Some hello) next out after (inr role) running h =
    let step = subst (λ (f : FrameData). Steps limits s list f next out after) h.1 h.2 in
    elim (quiet_hello limits s next list hello out after role running step) [
      | heard is same_list same ↦ (
        same_list,
        hears is (Hello hello, next, refl, subst (λ (l : List Entry). Steps limits s list (Hello hello) next silent l) same_list (subst (λ (o : OutData). Steps limits s list (Hello hello) next o after) is step), refl) same,
      )
      | stops ending e same_list ↦ (same_list, ends hello ending refl e)
    ]

module _ (limits : Limits) (rule : RuleData) (s : SessionData) (before : List Entry) (sent : OutData) (either : (sent.hello ≡ None) ⊎ (s.role ≡ Initiator)) (running : s.ended ≡ None)
    (t : SessionData) (out : OutData) (list : List Entry) (handed : IsHanded limits rule s before (option_map Hello sent.hello) t out list) where
  hello_part : (list ≡ before) × HelloHeard limits rule s before sent.hello t out
  hello_part = hello_heard limits rule s before sent.hello t out list either running handed

  pub hello_list : list ≡ before
  hello_list = hello_part.0

  -- the end ended at the Hello
  ends_at_hello : out.end ≢ None → HelloHeard limits rule s before sent.hello t out → IsCarried limits rule s before sent t out list
  ends_at_hello some (hears is h same) = absurd (some (ap (λ (o : OutData). o.end) is))
  ends_at_hello some (ends h ending is e) = to_end [] (map Item sent.send ++ turn_frames sent.turn) (Hello h) s ending (ap (λ (o : Option HelloData). hello_frames o ++ (map Item sent.send ++ turn_frames sent.turn)) is) refl
      (subst (λ (o : Option HelloData). IsHanded limits rule s before (option_map Hello o) t out list) is handed) e

  pub carried_to_hello : out.end ≢ None → IsCarried limits rule s before sent t out list
  carried_to_hello some = ends_at_hello some hello_part.1

  module _ (none : out.end ≡ None) where
    heard_by : HelloHeard limits rule s before sent.hello t out → Hears limits rule s before (hello_frames sent.hello) t × Same s t
    heard_by (hears is h same) = (h, same)
    heard_by (ends h ending is e) = absurd (let says = ap (λ (o : OutData). o.end) e.says in cc)

    -- it runs on
    pub runs_on : t.ended ≡ None
    runs_on = (heard_by hello_part.1).1.ended

    heard_hello : Hears limits rule s before (hello_frames sent.hello) t
    heard_hello = (heard_by hello_part.1).0

    module _ (u : SessionData) (out2 : OutData) (updates : AreHanded limits rule t list sent.send u out2) where
      updates_here : AreHanded limits rule t before sent.send u out2
      updates_here = subst (λ (l : List Entry). AreHanded limits rule t l sent.send u out2) hello_list updates

      ends_at_update : out2.end ≢ None → AreHanded limits rule t before sent.send u out2 → IsCarried limits rule s before sent u out2 before
      ends_at_update some (all_heard is h) = absurd (some (ap (λ (o : OutData). o.end) is))
      ends_at_update some (one_ends first rest e v ending is h last ends2) =
          to_end (hello_frames sent.hello ++ map Item first) (map Item rest ++ turn_frames sent.turn) (Item e) v ending split (hears_join limits rule s before (hello_frames sent.hello) (map Item first) t v heard_hello h) last ends2
        where
          split : frames_of sent ≡ (hello_frames sent.hello ++ map Item first) ++ Item e ∷ (map Item rest ++ turn_frames sent.turn)
          split = ap (λ (es : List Entry). hello_frames sent.hello ++ (map Item es ++ turn_frames sent.turn)) is
              ∙ ap (λ (fs : List FrameData). hello_frames sent.hello ++ (fs ++ turn_frames sent.turn)) (map-append Item first (e ∷ rest))
              ∙ ap (λ (fs : List FrameData). hello_frames sent.hello ++ fs) (append_assoc (map Item first) (Item e ∷ map Item rest) (turn_frames sent.turn))
              ∙ sym (append_assoc (hello_frames sent.hello) (map Item first) (Item e ∷ (map Item rest ++ turn_frames sent.turn)))

      -- where no Turn follows, this is all
      pub carried_first : sent.turn ≡ None → IsCarried limits rule s before sent u out2 before
      carried_first last = by updates_here
        where
          by : AreHanded limits rule t before sent.send u out2 → IsCarried limits rule s before sent u out2 before
          by (all_heard is h) =
              to_turn u (hears_join limits rule s before (hello_frames sent.hello) (map Item sent.send) t u heard_hello h)
              (subst (λ (o : Option TurnData). IsHanded limits rule u before (option_map Turn o) u out2 before) (sym last) (refl, is, refl))
          by (one_ends first rest e v ending is h handed2 ends2) = ends_at_update (λ none2. let says = ap (λ (o : OutData). o.end) ends2.says in cc) (one_ends first rest e v ending is h handed2 ends2)

-- ---- the Turn, behind what comes before it

module _ (limits : Limits) (rule : RuleData) (s : SessionData) (before : List Entry) (sent : OutData) (t : SessionData) (out : OutData) (list : List Entry) (carried : IsCarried limits rule s before (before_turn sent.hello sent.send) t out list) where
  longer : (first rest : List FrameData) (frame : FrameData) → frames_of (before_turn sent.hello sent.send) ≡ first ++ frame ∷ rest → frames_of sent ≡ first ++ frame ∷ (rest ++ turn_frames sent.turn)
  longer first rest frame split =
      sym (append_assoc (hello_frames sent.hello) (map Item sent.send ++ []) (turn_frames sent.turn) ∙ ap (λ (fs : List FrameData). hello_frames sent.hello ++ fs) (append_assoc (map Item sent.send) [] (turn_frames sent.turn)))
      ∙ ap (λ (fs : List FrameData). fs ++ turn_frames sent.turn) split ∙ append_assoc first (frame ∷ rest) (turn_frames sent.turn)

  -- the end ended before it
  pub carried_early : out.end ≢ None → IsCarried limits rule s before sent t out list
  carried_early some = by carried
    where
      by : IsCarried limits rule s before (before_turn sent.hello sent.send) t out list → IsCarried limits rule s before sent t out list
      by (to_turn u h handed) = absurd (some (ap (λ (o : OutData). o.end) handed.1))
      by (to_end first rest frame u ending split h handed e) = to_end first (rest ++ turn_frames sent.turn) frame u ending (longer first rest frame split) h handed e

  module _ (none : out.end ≡ None) where
    all_before : IsCarried limits rule s before (before_turn sent.hello sent.send) t out list → Hears limits rule s before (hello_frames sent.hello ++ map Item sent.send) t × (list ≡ before)
    all_before (to_turn u h handed) = (subst (Hears limits rule s before (hello_frames sent.hello ++ map Item sent.send)) (sym handed.0) h, handed.2)
    all_before (to_end first rest frame u ending split h handed e) = absurd (let says = ap (λ (o : OutData). o.end) e.says in cc)

    pub list_before : list ≡ before
    list_before = (all_before carried).1

    -- it takes the Turn
    pub carried_late : (next : SessionData) (answer : OutData) (after : List Entry) → IsHanded limits rule t before (option_map Turn sent.turn) next answer after → IsCarried limits rule s before sent next answer after
    carried_late next answer after last = to_turn t (all_before carried).0 last

-- ---- how an update arrives

module _ (rule : RuleData) (bytes : List ℕ) (signed : SpellsSigned bytes (update_of bytes)) where
  pub arrives_fine : (copy : List ℕ) → copy ≡ bytes → IsUnder rule (body_of bytes) → Arrives rule (Item (entry_of bytes)) (Item (entry_of copy))
  arrives_fine copy same under = inl (ap (λ (u : List ℕ). Item (entry_of u)) same, (update_of bytes, signed, under))

  pub is_fine : (copy : List ℕ) → copy ≡ bytes → IsUnder rule (body_of bytes) → IsChecked rule copy
  is_fine copy same under = subst (IsChecked rule) (sym same) (update_of bytes, signed, under)

  pub arrives_unlisted : (body_of bytes).database ≡ rule.database → ¬ (IsUnder rule (body_of bytes)) → Arrives rule (Item (entry_of bytes)) (BadItem 3)
  arrives_unlisted same bad = inr (AuthorNotListed, refl, (update_of bytes, signed.spells, same, λ listed. bad (record { database = same; author = listed })))

  pub arrives_elsewhere : (body_of bytes).database ≢ rule.database → Arrives rule (Item (entry_of bytes)) (BadItem 2)
  arrives_elsewhere other = inr (WrongDatabase, refl, (update_of bytes, signed.spells, other))
