pub mod CountsByClass
pub mod Fractions
pub mod SampleSums
pub mod TrueVerdicts
pub mod StepsLead
pub mod Percentiles
