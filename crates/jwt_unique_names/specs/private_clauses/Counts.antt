-- Counts for private clauses: the colons of a text, and the members of a value.
use Rattle.std.specs.Prelude.{ℕ, suc, ◌+◌, List, [], ◌∷◌}
use Rattle.json.specs.Lex.{Lexeme, token, comma, colon}
use Rattle.serde_json.specs.Data.{Data, null, boolean, number, string, array, object, Items, no_items, item, Members, no_members}
use Rattle.serde_json.specs.Data.{member}

abbrev pub colons : List Lexeme → ℕ
colons [] = 0
colons (token t ∷ ls) = colons ls
colons (comma ∷ ls) = colons ls
colons (colon ∷ ls) = suc (colons ls)

-- the members of the objects in the value, at any depth
abbrev mutual
  pub count : Data → ℕ
  count null = 0
  count (boolean b) = 0
  count (number n) = 0
  count (string s) = 0
  count (array ds) = items_count ds
  count (object ms) = members_count ms

  pub items_count : Items → ℕ
  items_count no_items = 0
  items_count (item d ds) = count d + items_count ds

  pub members_count : Members → ℕ
  members_count no_members = 0
  members_count (member k d ms) = suc (count d + members_count ms)
