pub mod CounterOrderLaws
pub mod MismatchesLaws
pub mod TableLaws
pub mod TriggerListLaws
