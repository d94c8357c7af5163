mod Blanks
mod Pieces
mod Tokens
