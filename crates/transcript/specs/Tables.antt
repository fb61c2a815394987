-- The table of sets that the program keeps from line to line, and what each line of sets leaves of it: TRANSCRIPT.md, "Ready-made sets". Definitions only.
use Rattle.std.specs.Prelude.{ℕ, ◌+◌, ◌||◌, cond, eqb, leb, ltb, List, [], ◌∷◌, ◌++◌, Float, codes, length}
use Rattle.std.specs.Float.{binary64}
use Rattle.words.specs.Printing.{counted_text, point_text}
use Rattle.constraints.specs.declared.cartesian_product.Set.{Set}
use Rattle.constraints.specs.Table.{cartesian_product}
use Rattle.constraints.specs.Lent.{table_of, lent_refusal}
use Rattle.transcript.specs.Texts.{refused_text}
use Rattle.script.specs.declared.sets.Change.{Change}
use Rattle.script.specs.declared.sets.Change.TheVariants as C
use Rattle.transcript.specs.declared.table.Table.{Table}

-- the sets, their numbers, the vector that was projected last, and what is printed
pub record Kept : Type 0 where
  pub sets : List Set
  pub numbers : List Float
  pub onto : List Float
  pub printed : List ℕ

abbrev pub kept : Table → List ℕ → Kept
kept t line = record { sets = t.sets.items; numbers = t.numbers.items; onto = t.onto.items; printed = line }

-- sets COUNT
abbrev pub counted : Kept → Kept
counted k = record k { printed = counted_text (codes "sets ") (length k.sets) }

abbrev pub emptied : Kept → Kept
emptied k = counted (record k { sets = []; numbers = [] })

-- a 17th set and numbers beyond 4,096 are not taken
abbrev pub added : Set → List Float → Kept → Kept
added s xs k =
    cond (leb 16 (length k.sets) || ltb 4096 (length k.numbers + length xs))
    (record k { printed = codes "bad" })
    (counted (record k { sets = k.sets ++ (s ∷ []); numbers = k.numbers ++ xs }))

-- onto X...
abbrev pub onto_line : Kept → Kept
onto_line k = record k { printed = point_text (codes "onto") k.onto }

-- a vector is projected, or the table is refused by a number, 0 for none, and leaves it as it was; one of more than 128 places is none
abbrev pub fitting : List Float → List Float
fitting xs = cond (leb (length xs) 128) xs []

abbrev pub put_onto : ℕ → List Float → Kept → Kept
put_onto r xs k = cond (eqb r 0) (onto_line (record k { onto = cartesian_product binary64 (table_of k.sets k.numbers) xs })) (record k { onto = xs; printed = refused_text r })

abbrev pub projected : List Float → Kept → Kept
projected xs k = put_onto (lent_refusal k.sets k.numbers (length xs)) xs k

-- what a line does
unfoldable pub changed : Change → List Float → Kept → Kept
changed C.Empty xs k = emptied k
changed (C.Add s) xs k = added s xs k
changed C.Onto xs k = projected (fitting xs) k
changed C.ShowOnto xs k = onto_line k
