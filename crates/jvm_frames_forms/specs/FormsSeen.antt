-- The written form of a frame as the definitions see it.
use Rattle.std.specs.Prelude.{◌<◌, ◌≤◌}
use Rattle.jvm_maps.specs.Frames.{Form, Same, SameOne, SameOneFar, Chop, SameFar, Append, Full}
use Rattle.jvm_frames_forms.specs.declared.forms.Form as rust_form
use Rattle.jvm_frames_forms.specs.declared.forms.Form.TheVariants as form

abbrev pub form_seen : rust_form.Form → Form
form_seen (form.Same d) = Same d
form_seen (form.SameOne d t) = SameOne d t.now
form_seen (form.SameOneFar d t) = SameOneFar d t.now
form_seen (form.Chop k d) = Chop k d
form_seen (form.SameFar d) = SameFar d
form_seen (form.Append k d more) = Append k d more.now
form_seen (form.Full d locals stack) = Full d locals.now stack.now

-- a near form's delta is below 64, and 1 to 3 locals are chopped or appended
abbrev pub IsForm : rust_form.Form → Type 0
IsForm (form.Same d) = d < 64
IsForm (form.SameOne d t) = d < 64
IsForm (form.Chop k d) = (0 < k) × (k ≤ 3)
IsForm (form.Append k d more) = (0 < k) × (k ≤ 3)
IsForm _ = Unit {0}
