-- The positions that are handed out are positions of the holder's list.
use Rattle.std.proofs.Common.{◌≡◌, ◌<◌, ◌≤◌, ◌+◌, ℕ, zero, suc, List, [], ◌∷◌, ◌++◌, All, length, get_or, map, take, filter_map, slice_get, Bool, Some, refl, ap, subst, inl, inr, arith}
use Rattle.std.specs.List.{cons_option, position_from}
use Rattle.std.proofs.lemmas.List.{length-map, length-take}
use Rattle.std.proofs.lemmas.List.Elements.{All-append, All-cons, All-get_or, All-nil}
use Rattle.session_rules.proofs.Words.{is_either}
use Rattle.session_rules.specs.State.{OutData}
use Rattle.session_rules.specs.Steps.{silent, closing}
use Rattle.session_rules.specs.declared.end.End.{End}
use Rattle.update_check.specs.Holding.{ArePositionsSince}
use Rattle.update_codec.specs.Parts.{entry_of}
use Rattle.update_model.specs.declared.update_id.UpdateId.{UpdateId}
use Rattle.update_model.specs.Entry.{Entry, same_id}
use Rattle.update_model.specs.Graph.{position_of}
use Rattle.sync_session.specs.Kept.{out_of}
use Rattle.sync_session.specs.declared.out.Out.{Out}

-- ---- nothing is handed out

some_entry : Entry
some_entry = record { id = record { 0 = [] }; preds = []; bytes = [] }

-- a list that reaches to a position
reaching : ℕ → List Entry
reaching zero = some_entry ∷ []
reaching (suc p) = some_entry ∷ reaching p

at_end : (p : ℕ) → slice_get (reaching p) p ≡ Some some_entry
unfolding reaching
at_end zero = refl
at_end (suc p) = at_end p

-- Positions that stand for nothing in any list are none.
no_positions : (ps : List ℕ) → ((list : List Entry) → filter_map (slice_get list) ps ≡ []) → ps ≡ []
no_positions [] none = refl
no_positions (p ∷ ps) none =
    absurd (let is : cons_option (Some some_entry) (filter_map (slice_get (reaching p)) ps) ≡ [] = subst (λ o. cons_option o (filter_map (slice_get (reaching p)) ps) ≡ []) (at_end p) (none (reaching p)) in cc)

pub silent_sends : (out : Out) → ((list : List Entry) → out_of list out ≡ silent) → out.send ≡ []
silent_sends out says = no_positions out.send (λ list. ap (λ (o : OutData). o.send) (says list))

pub closing_sends : (ending : End) (out : Out) → ((list : List Entry) → out_of list out ≡ closing ending) → out.send ≡ []
closing_sends ending out says = no_positions out.send (λ list. ap (λ (o : OutData). o.send) (says list))

pub none_within : (members : List (List ℕ)) (ps : List ℕ) → ps ≡ [] → All (λ p. p < length members) ps
none_within members ps none = rw none (All-nil (λ p. p < length members))

-- ---- positions that are found

pub more_within : (n : ℕ) (ps : List ℕ) (p : ℕ) → All (λ q. q < n) ps → p < n → All (λ q. q < n) (ps ++ p ∷ [])
more_within n ps p all low = All-append (λ q. q < n) ps (p ∷ []) all (All-cons (λ q. q < n) p [] low (All-nil (λ q. q < n)))

position_high : {X : Type 0} (t : X → Bool) (k p : ℕ) (xs : List X) → position_from t k xs ≡ Some p → p < k + length xs
position_high t k p [] h = absurd cc
position_high t k p (x ∷ xs) h = elim (is_either (t x)) [
  | inl passes ↦ let is : Some k ≡ Some p = rw passes at h in let same : k ≡ p = cc in omega arith
  | inr fails ↦ let rest : position_from t (k + 1) xs ≡ Some p = rw fails at h in let high = position_high t (k + 1) p xs rest in omega arith
]

-- the position of an id among the first so many
pub found_within : (members : List (List ℕ)) (id : UpdateId) (n p : ℕ) → position_of (take n (map entry_of members)) id ≡ Some p → p < length members
found_within members id n p h =
    let high = position_high (λ (e : Entry). same_id id e.id) 0 p (take n (map entry_of members)) h in
    omega (arith, length-take n (map entry_of members), length-map members entry_of)

-- a position of those since
pub since_within : (members : List (List ℕ)) (below : ℕ) (old : List UpdateId) (ps : List ℕ) (i : ℕ) → ArePositionsSince members below old ps → below ≤ length members → i < length ps → get_or ps i 0 < length members
since_within members below old ps i since within low = let here = All-get_or (λ p. p < below) ps i 0 low since.within in omega arith
