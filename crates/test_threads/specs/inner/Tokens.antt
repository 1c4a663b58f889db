-- The tokens of a run over turns.
use Rattle.atomic_table.specs.Seated.{TableId}
use Rattle.test_threads.specs.declared.token.Token.{Token}
use Rattle.test_threads.specs.declared.token.Token.TheVariants as token

-- the table of the token's turn
abbrev pub table_of : Token → TableId
table_of (token.Turn turn) = turn.table
table_of (token.Entered entered) = entered.inside.table
table_of (token.Owed owed) = owed.table
