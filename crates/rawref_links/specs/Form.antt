-- How a structure is kept.
use Rattle.std.specs.Prelude.{refl, ◌≡◌}
use Rattle.store_model.specs.Store.{Struct, Linked, Unlinked, Pending}
use Rattle.rawref_links.specs.declared.structure.Form.{Form}
use Rattle.rawref_links.specs.declared.structure.Form.TheVariants as form

-- the structure that a form stands for
abbrev pub struct_of : Form → Struct
struct_of (form.Linked p light object own) = Linked p light object own
struct_of (form.Unlinked own) = Unlinked own
struct_of form.Pending = Pending

-- the form of a structure
abbrev pub form_of : Struct → Form
form_of (Linked p light object own) = form.Linked p light object own
form_of (Unlinked own) = form.Unlinked own
form_of Pending = form.Pending

-- a form is that of the structure that it stands for
pub form_of-struct_of : (f : Form) → form_of (struct_of f) ≡ f
form_of-struct_of (form.Linked p light object own) = refl
form_of-struct_of (form.Unlinked own) = refl
form_of-struct_of form.Pending = refl
