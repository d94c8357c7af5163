-- What a byte more does to what was heard.
use Rattle.std.proofs.Common.{◌≡◌, ◌∙◌, ℕ, ◌+◌, ◌-◌, ◌<◌, ◌≤◌, Bool, true, false, not, cond, ◌&&◌, ◌==◌, nat_lt, List, [], ◌∷◌, ◌++◌, length, refl, sym, ap, subst, append_assoc, arith, length-append}
use Rattle.std.specs.Prelude.{◌⊎◌}
use Rattle.std.proofs.Common.{inl, inr}
use Rattle.std.proofs.lemmas.Bool.{and_parts}
use Rattle.std.proofs.lemmas.Bool.Decides.{nat_tests}
use Rattle.std.proofs.lemmas.List.{append-nil}
use Rattle.explanations.specs.Heard.{AreHeard, no_line, passed_over, one_kept, HasHeard, Hearing, MayKeep, NeverHeard, heard_at_end, heard_behind, with_line, nothing, whole_line, begun_behind, ended_behind, is_report}

ended_by : (here : Bool) (line bytes : List ℕ) (b c : ℕ) → (c == 10) ≡ here
    → ((begun : List ℕ) → ended_behind begun (bytes ++ b ∷ []) ≡ ended_behind begun bytes ++ (cond (b == 10) (begun_behind begun bytes ∷ []) []))
    → ended_behind line ((c ∷ bytes) ++ b ∷ []) ≡ ended_behind line (c ∷ bytes) ++ (cond (b == 10) (begun_behind line (c ∷ bytes) ∷ []) [])
ended_by true line bytes b c is more = rw is (ap (λ (ls : List (List ℕ)). line ∷ ls) (more []))
ended_by false line bytes b c is more = rw is (more (line ++ c ∷ []))

ended_alone : (here : Bool) (line : List ℕ) → cond here (line ∷ []) [] ≡ [] ++ cond here (line ∷ []) []
ended_alone true line = refl
ended_alone false line = refl

-- the lines that are ended with a byte more
ended_more : (bytes : List ℕ) (b : ℕ) (line : List ℕ) → ended_behind line (bytes ++ b ∷ []) ≡ ended_behind line bytes ++ (cond (b == 10) (begun_behind line bytes ∷ []) [])
ended_more [] b line = ended_alone (b == 10) line
ended_more (c ∷ bytes) b line = ended_by (c == 10) line bytes b c refl (λ begun. ended_more bytes b begun)

begun_by : (here : Bool) (line bytes : List ℕ) (b c : ℕ) → (c == 10) ≡ here
    → ((begun : List ℕ) → begun_behind begun (bytes ++ b ∷ []) ≡ cond (b == 10) [] (begun_behind begun bytes ++ b ∷ []))
    → begun_behind line ((c ∷ bytes) ++ b ∷ []) ≡ cond (b == 10) [] (begun_behind line (c ∷ bytes) ++ b ∷ [])
begun_by true line bytes b c is more = rw is (more [])
begun_by false line bytes b c is more = rw is (more (line ++ c ∷ []))

-- the line that is begun with a byte more
begun_more : (bytes : List ℕ) (b : ℕ) (line : List ℕ) → begun_behind line (bytes ++ b ∷ []) ≡ cond (b == 10) [] (begun_behind line bytes ++ b ∷ [])
begun_more [] b line = refl
begun_more (c ∷ bytes) b line = begun_by (c == 10) line bytes b c refl (λ begun. begun_more bytes b begun)

append_none : (ls : List (List ℕ)) → ls ++ [] ≡ ls
append_none [] = refl
append_none (l ∷ ls) = ap (λ (more : List (List ℕ)). l ∷ more) (append_none ls)

-- where nothing of a byte is heard
still : (here : Bool) (lines : List (List ℕ)) (line heard : List ℕ) → AreHeard lines heard → AreHeard (lines ++ (cond here (line ∷ []) [])) heard
still true lines line heard are = passed_over lines heard line are
still false lines line heard are = subst (λ (ls : List (List ℕ)). AreHeard ls heard) (sym (append_none lines)) are

pub over_heard : (h : Hearing) (given : List ℕ) (b : ℕ) → h.is_over ≡ true → HasHeard h given → HasHeard h (given ++ b ∷ [])
over_heard h given b over has = record {
  short = has.short;
  lines = subst (λ (ls : List (List ℕ)). AreHeard ls h.heard) (sym (ended_more given b [])) (still (b == 10) (ended_behind [] given) (begun_behind [] given) h.heard has.lines);
  all = λ on. absurd cc;
  begun = λ on passes. absurd cc;
  passed = λ on passes. absurd cc;
}

-- the line that is begun with a byte that is no LF, and the lines that are ended
begun_with : (given : List ℕ) (b : ℕ) → (b == 10) ≡ false → begun_behind [] (given ++ b ∷ []) ≡ begun_behind [] given ++ b ∷ []
begun_with given b other = begun_more given b [] ∙ ap (λ (t : Bool). cond t [] (begun_behind [] given ++ b ∷ [])) other

ended_with : (given : List ℕ) (b : ℕ) → (b == 10) ≡ false → ended_behind [] (given ++ b ∷ []) ≡ ended_behind [] given
ended_with given b other =
    ended_more given b [] ∙ (ap (λ (t : Bool). ended_behind [] given ++ (cond t (begun_behind [] given ∷ []) [])) other ∙ append_none (ended_behind [] given))

never_more : (limit : ℕ) (front : List ℕ) (b : ℕ) → NeverHeard limit front → NeverHeard limit (front ++ b ∷ [])
never_more limit front b never more =
    ap (λ (text : List ℕ). is_report text && nat_lt (length text) limit) (append_assoc front (b ∷ []) more) ∙ never (b ∷ more)

passed_with : (h : Hearing) (given : List ℕ) (b : ℕ) → h.is_over ≡ false → HasHeard h given
    → (h.passes ≡ true) ⊎ ((h.passes ≡ false) × NeverHeard h.limit (h.line ++ b ∷ [])) → NeverHeard h.limit (begun_behind [] given ++ b ∷ [])
passed_with h given b on has (inl passes) = never_more h.limit (begun_behind [] given) b (has.passed on passes)
passed_with h given b on has (inr never) = subst (λ (line : List ℕ). NeverHeard h.limit (line ++ b ∷ [])) (has.begun on never.0) never.1

pub byte_heard : (h new : Hearing) (given : List ℕ) (b : ℕ) → (b == 10) ≡ false → h.is_over ≡ false → new.heard ≡ h.heard → new.limit ≡ h.limit
    → (new.is_over ≡ false → new.passes ≡ false → (h.passes ≡ false) × (new.line ≡ h.line ++ b ∷ []))
    → (new.is_over ≡ false → new.passes ≡ true → (h.passes ≡ true) ⊎ ((h.passes ≡ false) × NeverHeard h.limit (h.line ++ b ∷ [])))
    → HasHeard h given → HasHeard new (given ++ b ∷ [])
byte_heard h new given b other on same limit line passed has = record {
  all = λ now.
      same ∙ (has.all on ∙ (ap (λ (n : ℕ). heard_behind n [] (ended_behind [] given)) (sym limit)
      ∙ ap (λ (ls : List (List ℕ)). heard_behind new.limit [] ls) (sym (ended_with given b other))));
  passed = λ now passes.
      subst (λ (front : List ℕ). NeverHeard new.limit front) (sym (begun_with given b other))
      (subst (λ (n : ℕ). NeverHeard n (begun_behind [] given ++ b ∷ [])) (sym limit) (passed_with h given b on has (passed now passes)));
  short = rw (same, limit) has.short;
  lines = subst (λ (heard : List ℕ). AreHeard (ended_behind [] (given ++ b ∷ [])) heard) (sym same)
      (subst (λ (ls : List (List ℕ)). AreHeard ls h.heard) (sym (ended_more given b [])) (still (b == 10) (ended_behind [] given) (begun_behind [] given) h.heard has.lines));
  begun = λ now passes.
      let less = line now passes in
      less.1 ∙ (ap (λ (l : List ℕ). l ++ b ∷ []) (has.begun on less.0) ∙ sym (begun_with given b other));
}

kept_line : (h : Hearing) (heard given : List ℕ) → h.is_over ≡ false → HasHeard h given → MayKeep h heard
    → AreHeard (ended_behind [] given ++ begun_behind [] given ∷ []) heard × (length heard ≤ h.limit)
kept_line h heard given on has (nothing same) = (
  subst (λ (bytes : List ℕ). AreHeard (ended_behind [] given ++ begun_behind [] given ∷ []) bytes) (sym same)
      (passed_over (ended_behind [] given) h.heard (begun_behind [] given) has.lines),
  rw same has.short,
)
kept_line h heard given on has (whole_line passes report short more) = (
  subst (λ (bytes : List ℕ). AreHeard (ended_behind [] given ++ begun_behind [] given ∷ []) bytes) (sym more)
      (subst (λ (line : List ℕ). AreHeard (ended_behind [] given ++ line ∷ []) (h.heard ++ (h.line ++ 10 ∷ []))) (has.begun on passes)
      (one_kept (ended_behind [] given) h.heard h.line has.lines report)),
  short,
)

-- what is heard of a line more
heard_more : (limit : ℕ) (heard : List ℕ) (lines : List (List ℕ)) (line : List ℕ) → heard_behind limit heard (lines ++ line ∷ []) ≡ with_line limit (heard_behind limit heard lines) line
heard_more limit heard [] line = refl
heard_more limit heard (first ∷ lines) line = heard_more limit (with_line limit heard first) lines line

-- where a line has no room under the limit, it has none under less
no_room : (report : Bool) (n limit k : ℕ) → (report && nat_lt n limit) ≡ false → (report && nat_lt n (limit - k)) ≡ false
no_room false n limit k none = refl
no_room true n limit k none =
    let far : limit ≤ n = grind (arith, nat_tests, none) in
    let less : limit - k ≤ n = omega arith in
    grind (arith, nat_tests, less)

never_heard : (limit : ℕ) (heard line : List ℕ) → NeverHeard limit line → with_line limit heard line ≡ heard
never_heard limit heard line never =
    let whole : line ++ [] ≡ line = append-nil line in
    let none : (is_report line && nat_lt (length line) limit) ≡ false = ap (λ (text : List ℕ). is_report text && nat_lt (length text) limit) (sym whole) ∙ never [] in
    ap (λ (t : Bool). cond t (heard ++ (line ++ 10 ∷ [])) heard) (no_room (is_report line) (length line) limit (length heard) none)

heard_here : (passes : Bool) (limit : ℕ) (heard line begun : List ℕ) → (passes ≡ false → line ≡ begun) → (passes ≡ true → NeverHeard limit begun)
    → cond passes heard (with_line limit heard line) ≡ with_line limit heard begun
heard_here true limit heard line begun is never = sym (never_heard limit heard begun (never refl))
heard_here false limit heard line begun is never = ap (with_line limit heard) (is refl)

at_end_heard : (h : Hearing) (given : List ℕ) → h.is_over ≡ false → HasHeard h given → heard_at_end h ≡ heard_behind h.limit [] (ended_behind [] given ++ begun_behind [] given ∷ [])
at_end_heard h given on has =
    heard_here h.passes h.limit h.heard h.line (begun_behind [] given) (has.begun on) (has.passed on)
    ∙ (ap (λ (heard : List ℕ). with_line h.limit heard (begun_behind [] given)) (has.all on) ∙ sym (heard_more h.limit [] (ended_behind [] given) (begun_behind [] given)))

pub line_heard : (h new : Hearing) (given : List ℕ) (b : ℕ) → (b == 10) ≡ true → h.is_over ≡ false → MayKeep h new.heard → new.limit ≡ h.limit
    → (new.is_over ≡ false → new.heard ≡ heard_at_end h) → new.line ≡ [] → new.passes ≡ false → HasHeard h given → HasHeard new (given ++ b ∷ [])
line_heard h new given b lf on may limit all line passes has =
    let kept = kept_line h new.heard given on has may in
    let ended : ended_behind [] (given ++ b ∷ []) ≡ ended_behind [] given ++ begun_behind [] given ∷ [] =
    ended_more given b [] ∙ ap (λ (t : Bool). ended_behind [] given ++ (cond t (begun_behind [] given ∷ []) [])) lf in
    let begun : begun_behind [] (given ++ b ∷ []) ≡ [] = begun_more given b [] ∙ ap (λ (t : Bool). cond t [] (begun_behind [] given ++ b ∷ [])) lf in
    record {
      short = rw limit kept.1;
      lines = subst (λ (ls : List (List ℕ)). AreHeard ls new.heard) (sym ended) kept.0;
      all = λ now.
          all now ∙ (at_end_heard h given on has ∙ (ap (λ (n : ℕ). heard_behind n [] (ended_behind [] given ++ begun_behind [] given ∷ [])) (sym limit)
          ∙ ap (λ (ls : List (List ℕ)). heard_behind new.limit [] ls) (sym ended)));
      begun = λ now free. line ∙ sym begun;
      passed = λ now shut. absurd cc;
    }

pub due_kept : (h : Hearing) (heard : List ℕ) → (not h.passes && is_report h.line && nat_lt (length h.line) (h.limit - length h.heard)) ≡ true
    → (heard ≡ h.heard) ⊎ (heard ≡ h.heard ++ (h.line ++ 10 ∷ [])) → MayKeep h heard
due_kept h heard due (inl same) = nothing same
due_kept h heard due (inr more) =
    let parts = and_parts (not h.passes && is_report h.line) (nat_lt (length h.line) (h.limit - length h.heard)) due in
    let front = and_parts (not h.passes) (is_report h.line) parts.0 in
    let room : length h.line < h.limit - length h.heard = let p = parts.1 in grind (arith, nat_tests, p) in
    let size : length heard ≡ length h.heard + (length h.line + 1) = ap length more ∙ (length-append h.heard (h.line ++ 10 ∷ []) ∙ ap (λ (n : ℕ). length h.heard + n) (length-append h.line (10 ∷ []))) in
    whole_line (not_true h.passes front.0) front.1 (omega (arith, size)) more
  where
    not_true : (b : Bool) → not b ≡ true → b ≡ false
    not_true true e = absurd cc
    not_true false e = refl

-- nothing was given
pub none_heard : (limit : ℕ) → HasHeard (record { heard = []; limit = limit; line = []; passes = false; is_over = false }) []
none_heard limit = record { short = omega arith; lines = no_line; all = λ on. refl; begun = λ on passes. refl; passed = λ on passes. absurd cc }
