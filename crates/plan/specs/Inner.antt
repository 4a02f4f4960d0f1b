-- Words of the contracts inside: the bytes of a plan, and of which bytes it is one. Definitions only, which no promise to a user cites.
use Rattle.std.specs.Prelude.{◌≡◌, List, [], ◌∷◌, ◌++◌, Bool, ℕ, ◌≤◌}
use Rattle.wide.specs.Number.{bytes_of}
use Rattle.wide.specs.Words.{value_of}
use Rattle.wide.specs.Family.{form}
use Rattle.wide.specs.Members.{integer}
use Rattle.plan.specs.declared.form.Form.{Form}
use Rattle.plan.specs.declared.marks.Marks.{Marks}
use Rattle.plan.specs.declared.marks.Marks.TheVariants.{Bare, One, Two}
use Rattle.plan.specs.declared.plan.Plan.{Plan}
use Rattle.rows.specs.declared.row.Row.{Row}
use Rattle.rows.specs.Table.{own_of}
use Rattle.encode.specs.Encode.{head_of}

abbrev pub marks_of : Marks → List ℕ
marks_of Bare = []
marks_of (One a) = a ∷ []
marks_of (Two a b) = a ∷ b ∷ []

unfoldable pub plan_bytes : Plan → List ℕ
plan_bytes p = marks_of p.marks ++ (p.lead ∷ bytes_of p.size (value_of p.value))

-- it is a plan of these bytes; there are never more than 16 bytes of a number
pub record Plans (p : Plan) (bytes : List ℕ) : Type 0 where
  pub short : p.size ≤ 16
  pub spells : plan_bytes p ≡ bytes

-- the lead of an integer at a value position, and the size of what stands behind it
pub record Formed (f : Form) (signed : Bool) (n : ℕ) : Type 0 where
  pub small : f.size ≤ 16
  pub form-is : f.lead ∷ bytes_of f.size n ≡ form (integer signed) n

-- what stands before the row's payload, or before its children, which take `size` bytes
unfoldable pub own_head : Row → ℕ → List ℕ
own_head w size = head_of (own_of w) size
