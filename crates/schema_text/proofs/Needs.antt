-- A good line has what is needed to take it.
use Rattle.expression_text.specs.declared.token.Token.{Token}
use Rattle.expression_text.specs.declared.token.Token.TheVariants as token
use Rattle.expression_text.specs.Columns.{HasShortText, HasRowText}
use Rattle.schema_text.specs.Forms.{HasUtf8Text}

row_text : (t : Token) → HasShortText t → HasUtf8Text t → HasRowText t
row_text (token.Text bytes) h u = (h, u)
row_text other h u = tt
