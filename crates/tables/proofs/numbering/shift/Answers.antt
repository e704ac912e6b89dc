use Rattle.tables.proofs.CountLaws.{shift_stored, shift_first_left, shift_first_right, shift_back_left, shift_back_right}
use Rattle.tables.proofs.numbering.shift.Goals.{in_default-via-in-RightFirst+else-is_left, in_default-via-in-RightThenBack+else-is_left-2}
use Rattle.tables.proofs.numbering.shift.Goals as goal

pub returns-in-Stored : goal.returns-in-Stored
returns-in-Stored c = shift_stored _ _ _ _ _ _ _ _ c.in-Stored.is c.saturating_sub.ensures

pub returns-in-RightFirst : goal.returns-in-RightFirst
returns-in-RightFirst c =
    shift_first_left _ _ _ _ _ _ _ _ _ _ c.in-RightFirst.is c.if-is_left.true c.saturating_sub-right.ensures c.saturating_sub-in-RightFirst.ensures c.plus.ensures

pub returns-in-RightThenBack : goal.returns-in-RightThenBack
returns-in-RightThenBack c =
    shift_back_left _ _ _ _ _ _ _ _ _ c.in-RightThenBack.is c.if-is_left-2.true c.saturating_sub-right.ensures c.plus-in-RightThenBack.ensures

pub returns-in_default : goal.returns-in_default
returns-in_default c =
    elim c.in_default.branch [
      | in_default-via-in-RightFirst+else-is_left w ↦ shift_first_right _ _ _ _ _ _ _ _ _ _ w.in-RightFirst.is w.if-is_left.false c.saturating_sub-right.ensures
          c.saturating_sub-in_default.ensures c.saturating_sub-in_default-2.ensures
      | in_default-via-in-RightThenBack+else-is_left-2 w ↦ shift_back_right _ _ _ _ _ _ _ _ _ _ w.in-RightThenBack.is w.if-is_left-2.false c.saturating_sub-right.ensures
          c.saturating_sub-in_default.ensures c.saturating_sub-in_default-2.ensures
    ]
