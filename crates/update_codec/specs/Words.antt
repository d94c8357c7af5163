-- How faults are named in texts.
use Rattle.std.specs.Prelude.{ℕ, List, ◌++◌, codes}
use Rattle.std.specs.Fmt.{decimal}
use Rattle.update_codec.specs.declared.codec_fault.CodecKind.{CodecKind}
use Rattle.update_codec.specs.declared.codec_fault.CodecKind.TheVariants.{Version, Short, Trailing, Order, Count, Tag, Text, KeyType, SignatureLength, TooLong, OwnIndex}

-- the words for a kind of fault
abbrev pub kind_words : CodecKind → List ℕ
kind_words Version = codes "version"
kind_words Short = codes "short"
kind_words Trailing = codes "trailing"
kind_words Order = codes "order"
kind_words Count = codes "count"
kind_words Tag = codes "tag"
kind_words Text = codes "text"
kind_words KeyType = codes "key type"
kind_words SignatureLength = codes "signature length"
kind_words TooLong = codes "too long"
kind_words OwnIndex = codes "own index"

-- the words and the place
abbrev pub fault_words : CodecKind → ℕ → List ℕ
fault_words kind place = kind_words kind ++ (codes " at " ++ decimal place)
