use Rattle.std.proofs.Common.{◌≡◌, [], take, string_bytes, fold}
use Rattle.drive.specs.Axes.{in_order}
use Rattle.explainer.specs.Words.{with_axis}
use Rattle.explainer.proofs.words.list_axes.Given as goal

abbrev pub invariant-loop-axis : goal.invariant-loop-axis
invariant-loop-axis l = string_bytes l.list ≡ fold (with_axis l.request) [] (take l.axis-index in_order)
