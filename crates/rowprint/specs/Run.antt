-- What a run promises of the bytes that a reader has left and a writer holds, where they are known.
use Rattle.std.specs.Prelude.{ℕ, ◌≡◌, List, take, Option, None, Some, ⊤}
use Rattle.std.specs.Io.KnownBytes.{Appends}
use Rattle.rowlines.specs.Printed.{Answers}

-- the text is all of the input, where that is known
abbrev pub IsInput : Option (List ℕ) → List ℕ → Type 0
IsInput None text = ⊤
IsInput (Some input) text = text ≡ input

-- What the writer holds grew by the first of xs, all of them or fewer.
pub record AppendsPart (old new : Option (List ℕ)) (xs : List ℕ) : Type 0 where
  pub count : ℕ
  pub appended : Appends old new (take count xs)

-- It grew by what is printed for the input.
pub record Prints (input old new : Option (List ℕ)) : Type 0 where
  pub text : List ℕ
  pub is_input : IsInput input text
  pub out : List ℕ
  pub answers : Answers text out
  pub appended : Appends old new out

-- It grew by a beginning of that.
pub record PrintsPart (input old new : Option (List ℕ)) : Type 0 where
  pub text : List ℕ
  pub is_input : IsInput input text
  pub out : List ℕ
  pub answers : Answers text out
  pub appended : AppendsPart old new out
