-- The parts of a response as code holds it.
use Rattle.mx_wire.specs.Replies.{Parts, fixed_parts}
use Rattle.mx_wire.specs.declared.replies.Response.{Response}
use Rattle.mx_wire.specs.declared.replies.Response.TheVariants.{Always, Made}

abbrev pub parts_of : Response → Parts
parts_of (Always fixed) = fixed_parts fixed
parts_of (Made parts) = parts
