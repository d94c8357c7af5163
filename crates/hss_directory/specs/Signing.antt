-- What a key does that signs one message with drawn bytes.
use Rattle.std.specs.Prelude.{◌≡◌, ℕ, List, Ok, Err}
use Rattle.rand_core.specs.Stream.{Stream, fill_bytes}
use Rattle.lms_tree.specs.SecretKey.{public_key, signature_by}
use Rattle.lms_tree.specs.Signature.{Signed}
use Rattle.key_index.specs.KeyState.{KeyState}
use Rattle.key_index.specs.Reserving.{Reserves}
use Rattle.key_index.specs.declared.reserve.Reserve.TheVariants as reserve
use Rattle.hss_directory.specs.declared.fault.HssFault.{HssFault}
use Rattle.hss_directory.specs.declared.fault.HssFault.TheVariants.{Disk, KeyThere, NoKey, BadKey, Spent, Memory}

-- the 32 bytes that a signature is made with, and the generator behind them
abbrev pub drawn_c : Stream → List ℕ
drawn_c random = (fill_bytes 32 random).0

abbrev pub after_c : Stream → Stream
after_c random = (fill_bytes 32 random).1

-- The key signed the message by the least index that was not used, with the generator's next bytes.
pub record SignsBy (old : KeyState) (random : Stream) (msg sig : List ℕ) (new : KeyState) (left : Stream) : Type 0 where
  pub index : ℕ
  pub reserves : Reserves old (Ok index) new
  pub made : sig ≡ signature_by old.secret index (drawn_c random) msg
  pub signed : Signed (public_key old.secret) msg sig
  pub drawn : left ≡ after_c random

-- The key signed nothing: memory ran out before anything was drawn, or the disk failed at the index that was tried.
abbrev pub SignsNone : KeyState → Stream → HssFault → KeyState → Stream → Type 0
SignsNone old random Memory new left = (new ≡ old) × (left ≡ random)
SignsNone old random Disk new left = Reserves old (Err reserve.DiskFault) new × (left ≡ after_c random)
SignsNone old random KeyThere new left = ⊥
SignsNone old random NoKey new left = ⊥
SignsNone old random BadKey new left = ⊥
SignsNone old random Spent new left = ⊥
