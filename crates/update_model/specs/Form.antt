-- What updates are, as plain data, and which of them are in form.
use Rattle.std.specs.Prelude.{ℕ, ◌+◌, ◌*◌, ◌≤◌, List, [], ◌∷◌, length, Bool, Option, Some, None, IsTrue, IsUtf8, ◌==◌, if◌then◌else◌}
use Rattle.std.specs.List.{AllByRecursion}
use Rattle.std.specs.Ordering.{nat_cmp, is_lt}
use Rattle.std.specs.Cmp.Lexicographic.{slice_cmp}
use Rattle.update_model.specs.declared.update_id.UpdateId.{UpdateId}
use Rattle.update_model.specs.declared.author_key.AuthorKey.{AuthorKey}
use Rattle.update_model.specs.declared.op.Op.{Op}
use Rattle.update_model.specs.declared.limits.TheConstants.{MAX_NOTE, MAX_OPS, MAX_PLAIN_OPS, MAX_PREDS}
use Rattle.update_model.specs.Block.{IsBlock, IsId}
use Rattle.update_model.specs.Rows.{AreOps}

-- the parts of a body; it has a note or none
pub record BodyData : Type 0 where
  pub database : List ℕ
  pub author : AuthorKey
  pub preds : List UpdateId
  pub ops : List Op
  pub note : Option (List ℕ)

-- a body and a signature
pub record UpdateData : Type 0 where
  pub body : BodyData
  pub signature : List ℕ

-- whether an id is below another, byte by byte
abbrev pub is_below : UpdateId → UpdateId → Bool
is_below a b = is_lt (slice_cmp nat_cmp a.0 b.0)

-- each id is above the one before it, and the first above this one where there is one
abbrev pub AreRising : Option UpdateId → List UpdateId → Type 0
AreRising last [] = Unit {0}
AreRising None (id ∷ ids) = AreRising (Some id) ids
AreRising (Some last) (id ∷ ids) = IsTrue (is_below last id) × AreRising (Some id) ids

-- the LMS types of heights 5, 10 and 15, and the LM-OTS types of 1, 2, 4 and 8 bits a digit
pub record IsKnownKey (key : AuthorKey) : Type 0 where
  pub lms : (5 ≤ key.lms) × (key.lms ≤ 7)
  pub ots : (1 ≤ key.ots) × (key.ots ≤ 4)

pub record IsKey (key : AuthorKey) : Type 0 where
  pub known : IsKnownKey key
  pub ident : IsBlock 16 key.ident
  pub root : IsBlock 32 key.root

-- a note is UTF-8, and not too long
abbrev pub IsNote : Option (List ℕ) → Type 0
IsNote None = Unit {0}
IsNote (Some text) = (length text ≤ MAX_NOTE) × IsUtf8 text

-- how many operations a body may have with this note, or without one
abbrev pub most_ops : Option (List ℕ) → ℕ
most_ops None = MAX_PLAIN_OPS
most_ops (Some text) = MAX_OPS

-- a body in form
pub record IsBody (body : BodyData) : Type 0 where
  pub database : IsBlock 32 body.database
  pub author : IsKey body.author
  pub few_preds : length body.preds ≤ MAX_PREDS
  pub ids : AllByRecursion IsId body.preds
  pub rising : AreRising None body.preds
  pub few_ops : length body.ops ≤ most_ops body.note
  pub ops : AreOps 0 body.ops
  pub note : IsNote body.note

-- how many bytes the one-time signatures of an LM-OTS type have
abbrev pub ots_length : ℕ → ℕ
ots_length kind = if kind == 1 then 8516 else if kind == 2 then 4292 else if kind == 3 then 2180 else 1124

-- the height of the trees of an LMS type
abbrev pub tree_height : ℕ → ℕ
tree_height kind = if kind == 5 then 5 else if kind == 6 then 10 else 15

-- how many bytes the signatures of a key have
abbrev pub signature_length : AuthorKey → ℕ
signature_length key = 8 + ots_length key.ots + 32 * tree_height key.lms

-- an update in form
pub record IsUpdate (update : UpdateData) : Type 0 where
  pub body : IsBody update.body
  pub signature : IsBlock (signature_length update.body.author) update.signature
