pub mod ValueRanges
