-- The row that a term row of the source stands for.
use Rattle.calculus.specs.Process.{act, out, join, pick, flow}
use Rattle.steps.specs.Rows.{Row, NIL, PREFIX, BRANCH}
use Rattle.rows.specs.declared.term.TermRow.{TermRow}
use Rattle.rows.specs.declared.term.TermRow.TheVariants.{Nil, Act, Out, Join, Pick, Flow}

abbrev pub row_of : TermRow → Row
row_of Nil = NIL
row_of (Act a d) = PREFIX (act a) d
row_of (Out l v d) = PREFIX (out l v) d
row_of (Join q d) = PREFIX (join q) d
row_of (Pick p q) = BRANCH pick p q
row_of (Flow p q) = BRANCH flow p q
