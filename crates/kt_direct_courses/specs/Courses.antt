-- What the interpreter answers, as a course.
use Rattle.kt_base.specs.Meaning.{Course}
use Rattle.kt_direct_courses.specs.declared.courses.Direct.{Direct}

abbrev pub course_form : Direct → Course
course_form d = record { events = d.events.items; end = d.end }
